-- `sentence::held` meets its contract: the place, and the words. Assumes nothing.
use Rattle.sentences.specs.Sentence.{held_text}
use Rattle.text.proofs.Puts.{puts_then}
use Rattle.sentences.proofs.sentence.held.Goals as goal

pub returns : goal.returns
unfolding held_text
returns c = puts_then c.labelled.ensures c.put.ensures
