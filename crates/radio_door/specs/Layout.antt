-- The row of a number of receivers as three cells. Assumes nothing.
use Rattle.std.specs.Prelude.{ℕ, cond, List, [], ◌∷◌, ltb, length, Err}
use Rattle.wire.specs.Answers.{number_of}
use Rattle.wire.specs.declared.Refusal.TheVariants.{BadCount}
use Rattle.layout.specs.Slots.{counted, slot, slots, padding}
use Rattle.cells.specs.Cells.{bad_state, Written, wrote, offered}

abbrev pub row_cells : ℕ → List ℕ
row_cells n = slot n ∷ slots n ∷ padding n ∷ []

unfoldable pub layout_of : ℕ → List ℕ → Written
layout_of n cells =
    cond (ltb (length cells) 3) (wrote bad_state cells)
    (cond (counted n) (offered (row_cells n) cells) (wrote (number_of (Err BadCount)) cells))
