-- Document 01, "The listing program": the row that is printed for a line, and the listing of a whole text. Assumes nothing.
use Rattle.std.specs.Prelude.{ℕ, ◌+◌, false, cond, Result, Ok, Err, List, [], ◌∷◌, ◌++◌, ltb, pos, length, take, drop, replicate}
use Rattle.wire.specs.Answers.{Accepted}
use Rattle.wire.specs.declared.Refusal.{Refusal}
use Rattle.wire.specs.declared.Refusal.TheVariants.{Length}
use Rattle.layout.specs.Slots.{values, slots}
use Rattle.radio_status.specs.Record.{fresh_status}
use Rattle.radio_status.specs.Words.{address}
use Rattle.radio.specs.Read.{Reading, byte, read_of}
use Rattle.hexline.specs.Lines.{Content, a_frame, no_frame, Found, lines, numbered}
use Rattle.text.specs.Put.{Written, gave, written}
use Rattle.hexline.specs.Printed.{text_of}
use Rattle.hexline.specs.Text.{found_by}
use Rattle.hexline.specs.declared.print.Columns.{Columns}
use Rattle.hexline.specs.declared.Taken.{Taken}

-- "one radio frame a line, one receiver": the read of a line's frame, into slices that are just long enough
unfoldable pub reading_of : List ℕ → Reading
reading_of frame = (read_of frame 1 (replicate (values 1) (pos 0)) (replicate (slots 1) (pos 0)) fresh_status).reading

-- "line number from 1, answer, address, DOT, DASH, PTT"; "A line that is not exactly 1,024 such digits is answered 3"
unfoldable pub row_text : ℕ → Content → List ℕ
row_text number (a_frame frame) =
    let r = reading_of frame in
    text_of number r.answer (address (byte frame 3)) r.status.dot r.status.dash r.status.ptt
row_text number no_frame = text_of number (Err Length) 0 false false false

-- the row's text by what the reading of a line gave: what is shown of it, or its refusal
abbrev pub text_for : ℕ → Result Columns Refusal → List ℕ
text_for number (Ok c) = text_of number Accepted c.address c.dot c.dash c.ptt
text_for number (Err e) = text_of number (Err e) 0 false false false

-- "For each it prints a line"
abbrev pub rows_of : List Found → List ℕ
rows_of [] = []
rows_of (f ∷ fs) = row_text f.number f.content ++ rows_of fs

-- the listing of a whole text
abbrev pub listing_of : List ℕ → List ℕ
listing_of text = rows_of (numbered 1 (lines text))

-- a row's text at the start of a slice that has room for any row
abbrev pub printed : List ℕ → List ℕ → Written
printed text out = cond (ltb (length out) 64) (gave 0 out) (written text out)

-- and at a place of it; the answer is the place after it
abbrev pub printed_at : ℕ → List ℕ → List ℕ → Written
printed_at at text out = cond (ltb (length out) (at + 64)) (gave at out) (gave (at + length text) (take at out ++ (text ++ drop (at + length text) out)))

-- the row of the line that ended, if one did
unfoldable pub row_at : Taken → ℕ → List ℕ → Written
row_at taken at out = printed_at at (rows_of (found_by taken)) out
