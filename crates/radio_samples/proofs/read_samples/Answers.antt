-- `read_samples` meets its contract: nothing where something is missing, or every slot. Assumes nothing.
use mathlib.Core.Path.{sym, ◌∙◌}
use Rattle.radio_samples.proofs.Roomy.{fits, unfit, room, not_read, gives_read}
use Rattle.radio_samples.proofs.read_samples.Goals as goal

pub returns-in_default : goal.returns-in_default
returns-in_default c = sym (not_read _ _ _ _ (unfit _ _ _ _ _ (sym c.fitting.ensures ∙ c.in_default.is)))

pub read_slots-requires : goal.read_slots-requires
read_slots-requires c =
    let fitted = fits _ _ _ _ _ _ (sym c.fitting.ensures ∙ c.in-Some.is) in
    let there = room _ _ _ _ _ fitted.0 in
    rw fitted.1 (there.2, there.0, there.1)

pub returns-in-Some : goal.returns-in-Some
returns-in-Some c =
    let fitted = fits _ _ _ _ _ _ (sym c.fitting.ensures ∙ c.in-Some.is) in
    gives_read _ _ _ _ fitted.0 _ _ (rw fitted.1 at c.read_slots.ensures.0) (rw fitted.1 at c.read_slots.ensures.1)
