-- What the call answers is inside the slice that was lent. Assumes nothing.
use mathlib.Core.Path.{◌≡◌}
use mathlib.Core.Bool.{◌||◌}
use mathlib.Core.List.{List}
use Prim.Native.Nat.{ℕ, ◌≤◌}
use lib.Dec.{ltb}
use lib.ListN.{length}
use Rattle.text.specs.Put.{gave}
use Rattle.text.proofs.Puts.{cond-inside}
use Rattle.why.specs.declared.Reason.{Reason}
use Rattle.explained.specs.Shown.{no_place, shown_text, shown_of}

pub shown_inside : (input : List ℕ) (place : ℕ) (reason : Reason) (out : List ℕ) (r : ℕ) (after : List ℕ) → gave r after ≡ shown_of input place reason out → r ≤ length after
unfolding shown_of
shown_inside input place reason out = cond-inside (ltb (length out) 512 || no_place input place reason) (shown_text input place reason) out
