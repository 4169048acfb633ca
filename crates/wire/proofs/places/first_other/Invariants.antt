-- what the loop keeps
-- `places::first_other` meets its contract: byte by byte, up to the first that is not due. Assumes nothing.
use mathlib.Core.Bool.{Bool}
use Prim.Native.Nat.{ℕ}
use lib.Dec.{eqb}
use Rattle.wire.proofs.FirstWrong.{Looked}
use Rattle.wire.proofs.places.first_other.Given as goal

abbrev is : ℕ → ℕ → Bool
is due b = eqb b due

abbrev pub invariant-loop-i : goal.invariant-loop-i
invariant-loop-i l = Looked (is l.due) l.part l.i
