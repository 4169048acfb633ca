-- Sync at a place of a list: none stands past the end, and what the three bytes of one that does are. Assumes nothing.
use mathlib.Core.Path.{◌≡◌}
use mathlib.Core.Bool.{false, ◌&&◌, and-false}
use mathlib.Core.List.{List, ◌++◌}
use Prim.Native.Nat.{ℕ, ◌+◌, ◌≤◌}
use native.Mathlib.Nat.{add_assoc}
use native.Mathlib.Omega.{arith}
use lib.Dec.{eqb}
use lib.ListN.{length, get_or, drop, get_or-eq_default, get_or-append}
use lib.Seq.{get_or-drop}
use Rattle.wire.specs.Sync.{sync_at}

pub past_end : (s : List ℕ) (p : ℕ) → length s ≤ p + 2 → sync_at s p ≡ false
past_end s p h =
    rw (get_or-eq_default s 0 {n = p + 2} h) (and-false (eqb (get_or s p 0) 127 && eqb (get_or s (p + 1) 0) 127))

-- sync where the list goes on, and where it is what is left of a longer one
pub sync_append : (x y : List ℕ) (p : ℕ) → p + 3 ≤ length x → sync_at (x ++ y) p ≡ sync_at x p
sync_append x y p inside =
    rw (get_or-append x y 0 p (omega arith), get_or-append x y 0 (p + 1) (omega arith), get_or-append x y 0 (p + 2) (omega arith))

pub sync-drop : (k : ℕ) (s : List ℕ) (p : ℕ) → sync_at (drop k s) p ≡ sync_at s (k + p)
sync-drop k s p =
    rw (get_or-drop k s p 0, get_or-drop k s (p + 1) 0, get_or-drop k s (p + 2) 0, add_assoc k p 1, add_assoc k p 2)
