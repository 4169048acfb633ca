-- The loop over a window's bytes: where it begins, and a byte more. Assumes nothing.
use mathlib.Core.Path.{◌≡◌}
use mathlib.Core.Bool.{cond}
use mathlib.Core.List.{List}
use Prim.Native.Nat.{ℕ, ◌+◌, min}
use native.Mathlib.Numerals.{add-one}
use native.Mathlib.Omega.{arith}
use borrow.Author.Tests.{lt-ltb, le-ltb}
use lib.Dec.{ltb}
use lib.ListN.{get_or}
use Rattle.wire.proofs.Cases.{by_order}
use Rattle.text.specs.Put.{Puts}
use Rattle.text.specs.declared.Writer.{Writer}
use Rattle.text.proofs.Puts.{puts_nothing, puts_then}
use Rattle.explained.specs.Window.{marked_of, cell_of, cells_of}
use Rattle.explained.specs.declared.window.Tested.{Tested}

module _ (input : List ℕ) (looked : Tested) (from : ℕ) where
  pub no_cells : {w : Writer} → Puts w w (cells_of input looked from 0)
  unfolding cells_of
  no_cells = puts_nothing

  pub cell_more : (i : ℕ) {before mid after : Writer} → Puts before mid (cells_of input looked from i) → Puts mid after (cell_of (marked_of looked (from + i)) (get_or input (from + i) 0))
      → Puts before after (cells_of input looked from (i + 1))
  unfolding cells_of
  cell_more i so_far one = rw (add-one i) (puts_then so_far one)

-- where a window's bytes end
pub window_end : (long centre : ℕ) → cond (ltb long (centre + 10)) long (centre + 10) ≡ min long (centre + 10)
window_end long centre =
    by_order long (centre + 10)
    (λ below. rw (lt-ltb long (centre + 10) below) (omega arith))
    (λ above. rw (le-ltb long (centre + 10) above) (omega arith))
