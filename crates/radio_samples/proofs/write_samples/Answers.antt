-- `write_samples` meets its contract: nothing where something is missing, or slots and padding. Assumes nothing.
use mathlib.Core.Path.{sym, ◌∙◌}
use native.Mathlib.Omega.{arith}
use Rattle.radio_samples.proofs.Roomy.{fits, unfit, room, not_written, all_written}
use Rattle.radio_samples.proofs.SlotsLaid.{payload_laid}
use Rattle.radio_samples.proofs.write_samples.Goals as goal

pub returns-in_default : goal.returns-in_default
returns-in_default c = sym (not_written _ _ _ _ (unfit _ _ _ _ _ (sym c.fitting.ensures ∙ c.in_default.is)))

pub write_slots-requires : goal.write_slots-requires
write_slots-requires c =
    let fitted = fits _ _ _ _ _ _ (sym c.fitting.ensures ∙ c.in-Some.is) in
    let there = room _ _ _ _ _ fitted.0 in
    rw fitted.1 there

pub slice_bounds-fill-count : goal.slice_bounds-fill-count
slice_bounds-fill-count c =
    let fitted = fits _ _ _ _ _ _ (sym c.fitting.ensures ∙ c.in-Some.is) in
    let there = room _ _ _ _ _ fitted.0 in
    omega (arith, there.2)

pub slice_bounds-fill-start : goal.slice_bounds-fill-start
slice_bounds-fill-start c =
    let fitted = fits _ _ _ _ _ _ (sym c.fitting.ensures ∙ c.in-Some.is) in
    let there = room _ _ _ _ _ fitted.0 in
    omega (arith, there.2)

pub returns-in-Some : goal.returns-in-Some
returns-in-Some c =
    let fitted = fits _ _ _ _ _ _ (sym c.fitting.ensures ∙ c.in-Some.is) in
    payload_laid c.args.receivers _ _ _ _ _ _ (rw fitted.1 at c.padding_start-start.ensures) (room _ _ _ _ _ fitted.0).2 (rw fitted.1 at c.write_slots.ensures)
    (c.fill.ensures.after (λ y same. same))
    ∙ sym (all_written _ _ _ _ fitted.0)
