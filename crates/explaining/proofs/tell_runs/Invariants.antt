-- `tell_runs` is safe and ends: each run goes on where the one before it ended. Assumes nothing.
use Rattle.std.proofs.Common.{◌-◌, length}
use Rattle.why.proofs.AllRuns.{Here}
use Rattle.explaining.proofs.tell_runs.Given as goal

abbrev pub invariant-loop-start : goal.invariant-loop-start
invariant-loop-start g l = Here l.input l.start

abbrev pub decreases-loop-start : goal.decreases-loop-start
decreases-loop-start g l = length l.input - l.start
