-- A header over the start of a frame: where there is room for it, and where not; its last four stores are a list laid down at once.
-- Assumes nothing.
use mathlib.Core.Path.{◌≡◌, refl}
use mathlib.Core.List.{List, [], ◌∷◌}
use Prim.Native.Nat.{ℕ, suc, ◌<◌, ◌≤◌}
use native.Mathlib.Omega.{arith}
use borrow.Author.Tests.{lt-ltb, le-ltb}
use lib.ListN.{length, get_or, set}
use lib.Seq.{sets}
use Rattle.wire.specs.Sync.{header_of, headed}

pub four_stores : (l : List ℕ) (at : ℕ) (b : List ℕ) → length b ≡ 4 → set (set (set (set l at (get_or b 0 0)) (suc at) (get_or b 1 0)) (suc (suc at)) (get_or b 2 0)) (suc (suc (suc at))) (get_or b 3 0) ≡ sets l at b
four_stores l at [] e = absurd (omega arith)
four_stores l at (b0 ∷ []) e = absurd (omega arith)
four_stores l at (b0 ∷ b1 ∷ []) e = absurd (omega arith)
four_stores l at (b0 ∷ b1 ∷ b2 ∷ []) e = absurd (omega arith)
four_stores l at (b0 ∷ b1 ∷ b2 ∷ b3 ∷ []) e = refl
four_stores l at (b0 ∷ b1 ∷ b2 ∷ b3 ∷ b4 ∷ bs) e = absurd (omega arith)

module _ (c0 : ℕ) (word frame : List ℕ) where
  pub no_room : length frame < 8 → headed c0 word frame ≡ frame
  unfolding headed
  no_room short = rw (lt-ltb _ _ short)

  pub with_room : 8 ≤ length frame → headed c0 word frame ≡ sets frame 0 (header_of c0 word)
  unfolding headed
  with_room room = rw (le-ltb _ _ room)
