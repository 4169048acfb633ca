-- A transfer of radio frames through the door: what it is of the record that the cells are, with the answer as its number. Assumes nothing.
use Rattle.std.specs.Prelude.{ℕ, cond, List, eqb, ℤ}
use Rattle.std.proofs.lemmas.List.Edits.{sets}
use Rattle.wire.specs.Answers.{told}
use Rattle.transfer.specs.Transfer as Transfer
use Rattle.cells.specs.Cells.{within, got, bad_state}
use Rattle.radio_door.specs.Status.{status_most, status_of, status_cells}
use Rattle.radio_door.specs.Radio.{Outcome, gave}

-- after frames that were read, a record's fields stand over the first cells; none read, the cells are as they were
abbrev pub kept_after : ℕ → List ℕ → List ℕ → List ℕ
kept_after frames fields cells = cond (eqb frames 0) cells (sets cells 0 fields)

-- the number of frames read is what was found, on acceptance and on a frame's refusal alike: there it is that frame's index, from 0, and
-- the place stands beside it
abbrev pub shown : List ℕ → Transfer.Outcome → Outcome
shown cells o =
    gave (got (told o.answer) o.frames)
    (kept_after o.frames (status_cells o.status) cells)
    o.iq
    o.mic

unfoldable pub read_transfer_of : List ℕ → ℕ → List ℤ → List ℤ → List ℕ → Outcome
read_transfer_of input n iq mic cells =
    cond (within status_most cells) (shown cells (Transfer.transfer_of input n iq mic (status_of cells))) (gave bad_state cells iq mic)
