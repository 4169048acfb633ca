-- `explain` meets its contract: both refusals, and the reason that following the reading gives. Assumes nothing.
use mathlib.Core.Path.{sym, ap, ◌∙◌}
use native.Mathlib.Omega.{arith}
use Rattle.why.specs.Why.{accepted}
use Rattle.why.proofs.Cases.{input_too_long, place_too_far, explains}
use Rattle.why.proofs.explain.Goals as goal

pub returns-then-length-gt-MOST : goal.returns-then-length-gt-MOST
returns-then-length-gt-MOST c =
    sym (input_too_long c.args.input.now c.args.place (omega arith))

pub returns-then-length-place : goal.returns-then-length-place
returns-then-length-place c =
    sym (place_too_far c.args.input.now c.args.place (omega arith) (omega arith))

pub returns : goal.returns
returns c =
    ap accepted c.followed.ensures ∙ sym (explains c.args.input.now c.args.place (record { short = omega arith; inside = omega arith }))
