-- `run_end` meets its contract: each turn is a step of the run. Assumes nothing.
use mathlib.Core.Path.{◌≡◌, sym, ◌∙◌}
use native.Mathlib.Omega.{arith}
use Rattle.why.specs.Runs.{step_by}
use Rattle.why.proofs.RunSteps.{some_step, does-nothing, run_stops, goes_on, stops}
use Rattle.why.proofs.runs.run_end.Goals as goal

pub returns-then-good_at-begins : goal.returns-then-good_at-begins
returns-then-good_at-begins c =
    sym (c.loop-place.invariant.1 ∙ stops c.args.input.now c.args.begins c.loop-place.place (omega arith) (rw (← c.good_at.ensures) c.if-good_at-begins.true))

pub loop-place-preserved : goal.loop-place-preserved
loop-place-preserved c =
    let some = some_step c.args.begins in
    let step : c.step_by-step.result ≡ step_by c.args.begins = c.step_by-step.ensures in (
      omega arith,
      c.loop-place.invariant.1 ∙ goes_on c.args.input.now c.args.begins c.loop-place.place (omega arith) (rw (← c.good_at.ensures) c.if-good_at-begins.false) ∙ rw step,
    )

pub returns : goal.returns
returns c =
    sym (c.loop-place.invariant.1 ∙ run_stops c.args.input.now c.args.begins c.loop-place.place (does-nothing c.args.input.now c.args.begins c.loop-place.place (omega arith)))
