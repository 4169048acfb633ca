-- what the loop keeps
-- `zeros::all_zero` meets its contract: byte by byte. Assumes nothing.
use mathlib.Core.Bool.{Bool}
use Prim.Native.Nat.{ℕ}
use lib.Dec.{eqb}
use Rattle.wire.proofs.Everywhere.{Tested}
use Rattle.wire.proofs.zeros.all_zero.Given as goal

abbrev is_zero : ℕ → Bool
is_zero b = eqb b 0

abbrev pub invariant-loop-b : goal.invariant-loop-b
invariant-loop-b l = Tested is_zero l.part l.so_far l.b-index
