-- What the loop keeps: it follows the reading. Each turn leaves less of the input.
use Prim.Native.Nat.{◌-◌}
use lib.ListN.{length}
use Rattle.plain.proofs.Following.{Following}
use Rattle.plain.proofs.read.Given as goal

abbrev pub invariant-loop-place : goal.invariant-loop-place
invariant-loop-place l = Following l.input l.initial.output l.output l.frames l.skipped l.place

abbrev pub decreases-loop-place : goal.decreases-loop-place
decreases-loop-place l = length l.input - l.place
