-- `runs::handed` meets its contract: the places, and the count of frames. Assumes nothing.
use Rattle.sentences.specs.Run.{run_handed}
use Rattle.text.proofs.Puts.{puts_then}
use Rattle.sentences.proofs.runs.handed.Goals as goal

pub returns : goal.returns
unfolding run_handed
returns c = puts_then c.subject.ensures (rw c.saturating_sub.ensures at c.counted.ensures)
