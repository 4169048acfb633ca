-- What the loop keeps: it follows the reading, and has not gone past the place that is asked for. Each turn leaves less of the input.
use Prim.Native.Nat.{◌-◌}
use Rattle.why.proofs.Following.{Following}
use Rattle.why.proofs.followed.Given as goal

abbrev pub invariant-loop-place : goal.invariant-loop-place
invariant-loop-place l = Following l.input l.asked l.place

abbrev pub decreases-loop-place : goal.decreases-loop-place
decreases-loop-place l = l.length - l.place
