-- `runs::held` meets its contract: the places, and the words. Assumes nothing.
use Rattle.sentences.specs.Run.{run_held}
use Rattle.sentences.proofs.runs.held.Goals as goal

pub returns : goal.returns
unfolding run_held
returns c = c.subject.ensures
