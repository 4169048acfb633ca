-- `sentence::said` meets its contract: a sentence for each reason. Assumes nothing.
use Rattle.text.proofs.Puts.{puts_nothing}
use Rattle.sentences.proofs.sentence.said.Goals as goal

pub returns-in-NotGiven : goal.returns-in-NotGiven
returns-in-NotGiven c = rw c.in-NotGiven.is puts_nothing
