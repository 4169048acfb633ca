-- What is carried from one chunk of the input to the next. Assumes nothing.
use Rattle.std.specs.Prelude.{◌≡◌, List, ℕ, take}
use Rattle.std.specs.Io.KnownBytes.{Consumes, Appends}
use Rattle.std.specs.declared.option.Option.{Option}
use Rattle.text.specs.Put.{Written, gave}
use Rattle.hexline.specs.Reader.{end_of}
use Rattle.hexline.specs.Text.{Run, chunk_of, found_by}
use Rattle.hexline.specs.declared.Reader.{Reader}
use Rattle.listing.specs.Buffer.{buffer_after, written_by}
use Rattle.listing.specs.declared.rows.Rows.{Rows}

-- the output buffer
abbrev pub buffer : {W : Type 0} → Rows W → Written
buffer rows = gave rows.waiting rows.out

-- a run over some bytes was listed: its reader goes on, and its lines' rows went through the buffer
pub record Lists (buffer : Written) (run : Run) (next : Reader) (after : Written) : Type 0 where
  pub reader_is : next ≡ run.reader
  pub buffer_is : after ≡ buffer_after run.found buffer

-- the bytes of some read, which stand at the start of the chunk as it returns, were listed; where the bytes are known that the input has left
-- and that the output holds, they are the input's next ones, and the output has what was written meanwhile
pub record ListsOn (coming left had has : Option (List ℕ)) (given : Reader) (buffer : Written) (chunk : List ℕ) (next : Reader) (after : Written) : Type 0 where
  pub got : ℕ
  pub lists : Lists buffer (chunk_of given (take got chunk)) next after
  pub reads : Consumes coming left (take got chunk)
  pub writes : Appends had has (written_by (chunk_of given (take got chunk)).found buffer)

-- the input ended: the row of a last line without a newline went through the buffer
pub record EndsOn (had has : Option (List ℕ)) (given : Reader) (buffer after : Written) : Type 0 where
  pub buffer_is : after ≡ buffer_after (found_by (end_of given)) buffer
  pub writes : Appends had has (written_by (found_by (end_of given)) buffer)
