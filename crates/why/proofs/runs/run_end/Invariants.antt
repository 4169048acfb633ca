-- What the loop keeps: from the place where it is the run ends where it ends from its start. Each turn leaves less of the input.
use mathlib.Core.Path.{◌≡◌}
use Prim.Native.Nat.{◌-◌, ◌≤◌}
use lib.ListN.{length}
use Rattle.why.specs.Runs.{run_end}
use Rattle.why.proofs.runs.run_end.Given as goal

abbrev pub invariant-loop-place : goal.invariant-loop-place
invariant-loop-place l = (l.place ≤ length l.input) × (run_end l.input l.begins l.start ≡ run_end l.input l.begins l.place)

abbrev pub decreases-loop-place : goal.decreases-loop-place
decreases-loop-place l = length l.input - l.place
