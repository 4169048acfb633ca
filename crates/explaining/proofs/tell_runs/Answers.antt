-- `tell_runs` is safe and ends: each run goes on where the one before it ended. Assumes nothing.
use Rattle.std.proofs.Common.{arith}
use mathlib.Core.Path.{subst⁻¹}
use Rattle.why.proofs.AllRuns.{Here, here_first, true_here}
use Rattle.explaining.proofs.Said.{run_ends}
use Rattle.explaining.proofs.tell_runs.Goals as goal

pub loop-start-init : goal.loop-start-init
loop-start-init g c = here_first c.args.input.now

-- the run of this turn is true of the input, and the next turn begins where it ends
pub loop-start-smaller : goal.loop-start-smaller
loop-start-smaller g c =
    let is = true_here c.args.input.now c.loop-start.start c.loop-start.invariant c.loop-start-test.true in
    omega (arith, run_ends c.args.input.now c.loop-start.start _ c.run_text-line.result _ c.run_text-line.ensures.out_after, is.some, is.within)

pub loop-start-preserved : goal.loop-start-preserved
loop-start-preserved g c =
    let is = true_here c.args.input.now c.loop-start.start c.loop-start.invariant c.loop-start-test.true in
    subst⁻¹ (Here _) (run_ends c.args.input.now c.loop-start.start _ c.run_text-line.result _ c.run_text-line.ensures.out_after) is.next
