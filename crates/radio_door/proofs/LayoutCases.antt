-- The row of a number of receivers through the door, in its cases. Assumes nothing.
use mathlib.Core.Path.{◌≡◌, sym, ap, ◌∙◌}
use mathlib.Core.Bool.{cond}
use mathlib.Core.List.{List}
use Prim.Native.Nat.{ℕ, ◌<◌, ◌≤◌}
use borrow.Author.Tests.{lt-ltb, le-ltb}
use lib.ListN.{length}
use Rattle.std.specs.Prelude.{Ok, Err}
use Rattle.wire.specs.Answers.{number_of}
use Rattle.wire.specs.declared.Refusal.TheVariants.{BadCount}
use Rattle.wire.specs.declared.Refusal.{Refusal}
use Rattle.layout.specs.Slots.{counted}
use Rattle.layout.specs.Table.{lookup}
use Rattle.layout.specs.declared.row.Row.{Row}
use Rattle.layout.proofs.Lookup.{found, not_found}
use Rattle.cells.specs.Cells.{bad_state, wrote, offered}
use Rattle.radio_door.specs.Layout.{row_cells, layout_of}

module _ (n : ℕ) (cells : List ℕ) where
  pub layout_few : length cells < 3 → wrote bad_state cells ≡ layout_of n cells
  unfolding layout_of
  layout_few few = rw (lt-ltb (length cells) 3 few)

  module _ (room : 3 ≤ length cells) where
    layout_room : layout_of n cells ≡ cond (counted n) (offered (row_cells n) cells) (wrote (number_of (Err BadCount)) cells)
    unfolding layout_of
    layout_room = rw (le-ltb (length cells) 3 room)

    pub layout_refused : (e : Refusal) → lookup n ≡ Err e → wrote (number_of (Err e)) cells ≡ layout_of n cells
    layout_refused e is =
        let missing = not_found n e is in
        ap (λ r. wrote (number_of (Err r)) cells) missing.1 ∙ sym (layout_room ∙ rw missing.0)

    pub layout_found : (row : Row) → lookup n ≡ Ok row → offered (row_cells row.receivers) cells ≡ layout_of n cells
    layout_found row is =
        let found = found n row is in
        ap (λ (r : Row). offered (row_cells r.receivers) cells) found.1 ∙ sym (layout_room ∙ rw found.0)
