-- Reading and writing a radio frame through the door: document 01's outcome, with the record as cells and the answer as its number.
-- Assumes nothing.
use Rattle.std.specs.Prelude.{ℕ, cond, List, ℤ}
use Rattle.wire.specs.Answers.{number_of, told}
use Rattle.radio.specs.Read as Read
use Rattle.radio_status.specs.Words.{word_number}
use Rattle.radio.specs.Write as Write
use Rattle.cells.specs.Cells.{within, got, bad_state, kept, Written, wrote}
use Rattle.radio_door.specs.Status.{status_most, status_of, status_cells}

-- what a read leaves: the number returned, and every lent slice at exit
pub record Outcome : Type 0 where
  pub number : ℕ
  pub status : List ℕ
  pub iq : List ℤ
  pub mic : List ℤ

abbrev pub gave : ℕ → List ℕ → List ℤ → List ℤ → Outcome
gave k status iq mic = record { number = k; status = status; iq = iq; mic = mic }

-- document 01's read, of the record that the cells are
abbrev pub shown : List ℕ → Read.Outcome → Outcome
shown cells o =
    gave (got (told o.reading.answer) (word_number o.reading.word))
    (kept o.reading.answer (status_cells o.reading.status) cells)
    o.iq
    o.mic

unfoldable pub radio_read_of : List ℕ → ℕ → List ℤ → List ℤ → List ℕ → Outcome
radio_read_of frame n iq mic cells =
    cond (within status_most cells) (shown cells (Read.read_of frame n iq mic (status_of cells))) (gave bad_state cells iq mic)

-- document 01's write, by its number
abbrev pub numbered : Write.Outcome → Written
numbered o = wrote (number_of o.answer) o.frame

unfoldable pub radio_write_of : List ℕ → ℕ → ℕ → List ℤ → List ℤ → List ℕ → Written
radio_write_of cells w n iq mic frame =
    cond (within status_most cells) (numbered (Write.write_of (status_of cells) w n iq mic frame)) (wrote bad_state frame)
