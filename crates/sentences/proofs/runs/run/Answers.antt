-- `runs::run` meets its contract: a line for each reason. Assumes nothing.
use Rattle.text.proofs.Puts.{puts_nothing}
use Rattle.sentences.proofs.runs.run.Goals as goal

pub returns-in-NotGiven : goal.returns-in-NotGiven
returns-in-NotGiven c = rw c.in-NotGiven.is puts_nothing
