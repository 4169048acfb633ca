-- `complaint` meets its contract: the line is inside its buffer. Assumes nothing.
use Rattle.sentences.proofs.Inside.{past_inside}
use Rattle.explaining.proofs.complaint.Goals as goal

pub returns-in-PastEnd-clause-count_in_bounds : goal.returns-in-PastEnd-clause-count_in_bounds
returns-in-PastEnd-clause-count_in_bounds c = past_inside _ _ _ _ c.past_end.ensures
