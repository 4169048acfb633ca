-- `place_text` meets its contract: the reason in words, or that there is no such place. Assumes nothing.
use Rattle.explained.proofs.Inside.{shown_inside}
use Rattle.explaining.proofs.Said.{reason-said, none_said}
use Rattle.explaining.proofs.place_text.Goals as goal

pub returns-in_default-clause-out_after : goal.returns-in_default-clause-out_after
returns-in_default-clause-out_after c = none_said _ _ _ _ c.in_default.ensures

pub returns-clause-count_in_bounds : goal.returns-clause-count_in_bounds
returns-clause-count_in_bounds c = shown_inside _ _ _ _ _ _ c.shown.ensures

pub returns-clause-out_after : goal.returns-clause-out_after
returns-clause-out_after c = reason-said _ _ _ _ c.in-Ok.ensures c.shown.ensures
