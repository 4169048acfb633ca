-- `followed` meets its contract: each turn of its loop is a step of the reading, up to the place that is asked for. Assumes nothing.
use mathlib.Core.Path.{sym, ◌∙◌}
use native.Mathlib.Omega.{arith}
use Rattle.why.proofs.Following.{starts, is_inside_lem, goes_past_frame, is_skipped_lem, goes_past_byte, stays_held}
use Rattle.why.proofs.followed.Goals as goal

pub loop-place-init : goal.loop-place-init
loop-place-init c = starts c.args.input.now c.args.asked

pub returns-then-asked-place : goal.returns-then-asked-place
returns-then-asked-place c =
    is_inside_lem c.loop-place.invariant (sym c.good_at.ensures ∙ c.if-good_at.true) (omega arith)

pub loop-place-preserved-then-good_at : goal.loop-place-preserved-then-good_at
loop-place-preserved-then-good_at c =
    goes_past_frame c.loop-place.invariant (sym c.good_at.ensures ∙ c.if-good_at.true) (omega arith)

pub returns-then-asked-place-2 : goal.returns-then-asked-place-2
returns-then-asked-place-2 c =
    c.skipped.ensures
    ∙ is_skipped_lem c.loop-place.invariant (sym c.good_at.ensures ∙ c.if-good_at.false) (omega arith) (omega arith)

pub loop-place-preserved : goal.loop-place-preserved
loop-place-preserved c =
    goes_past_byte c.loop-place.invariant (sym c.good_at.ensures ∙ c.if-good_at.false) (omega arith) c.if-asked-place-2.false

pub returns : goal.returns
returns c = stays_held c.loop-place.invariant (omega arith) (omega arith)
