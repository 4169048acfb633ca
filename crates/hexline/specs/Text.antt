-- What a caller finds in a text that comes in chunks: `take` for as long as bytes of a chunk are left, one chunk after another, and then
-- `end`. Assumes nothing.
use Rattle.std.specs.Prelude.{ℕ, zero, suc, List, [], ◌∷◌, ◌++◌, length, drop}
use Rattle.hexline.specs.Lines.{Found, a_frame, no_frame}
use Rattle.hexline.specs.Reader.{fresh_reader, take_of, end_of}
use Rattle.hexline.specs.declared.Line.{Line}
use Rattle.hexline.specs.declared.Line.TheVariants.{Unfinished, Frame, Length}
use Rattle.hexline.specs.declared.Reader.{Reader}
use Rattle.hexline.specs.declared.Taken.{Taken}

-- the line that ended, if one did, as the reader that came back has it
abbrev pub line_in : Line → Reader → List Found
line_in Unfinished r = []
line_in Frame r = record { number = r.number; content = a_frame r.frame } ∷ []
line_in Length r = record { number = r.number; content = no_frame } ∷ []

abbrev pub found_by : Taken → List Found
found_by t = line_in t.line t.reader

-- the lines found so far, and the reader that goes on
pub record Run : Type 0 where
  pub found : List Found
  pub reader : Reader

abbrev pub after : List Found → Run → Run
after found run = record { found = found ++ run.found; reader = run.reader }

-- each `take` reads at least one byte, so that there are at most as many calls as bytes
unfoldable pub chunk_in : ℕ → Reader → List ℕ → Run
chunk_in zero r rest = record { found = []; reader = r }
chunk_in (suc n) r [] = record { found = []; reader = r }
chunk_in (suc n) r (b ∷ rest) =
    after (found_by (take_of r (b ∷ rest))) (chunk_in n (take_of r (b ∷ rest)).reader (drop (take_of r (b ∷ rest)).used (b ∷ rest)))

abbrev pub chunk_of : Reader → List ℕ → Run
chunk_of r chunk = chunk_in (length chunk) r chunk

abbrev pub chunks_of : Reader → List (List ℕ) → Run
chunks_of r [] = record { found = []; reader = r }
chunks_of r (chunk ∷ rest) = after (chunk_of r chunk).found (chunks_of (chunk_of r chunk).reader rest)

-- every line that is found, from a fresh reader on to the end of the text
abbrev pub found_in : List (List ℕ) → List Found
found_in chunks = (chunks_of fresh_reader chunks).found ++ found_by (end_of (chunks_of fresh_reader chunks).reader)
