-- `run_from` meets its contract: what is held where fewer than 515 bytes remain, and frames or skipped bytes otherwise. Assumes nothing.
use mathlib.Core.Path.{sym, ◌∙◌}
use native.Mathlib.Omega.{arith}
use Rattle.why.proofs.RunSteps.{run_held_lem, run_going}
use Rattle.why.proofs.runs.run_from.Goals as goal

pub returns-then-saturating_sub-lt515 : goal.returns-then-saturating_sub-lt515
returns-then-saturating_sub-lt515 c =
    sym (run_held_lem c.args.input.now c.args.start (omega arith))

pub returns : goal.returns
returns c =
    c.going.ensures ∙ sym (run_going c.args.input.now c.args.start (omega arith))
