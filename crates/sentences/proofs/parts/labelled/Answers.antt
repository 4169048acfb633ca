-- `parts::labelled` meets its contract: the label, and then the number. Assumes nothing.
use Rattle.text.proofs.Puts.{puts_then}
use Rattle.sentences.proofs.parts.labelled.Goals as goal

pub returns : goal.returns
returns c = puts_then c.put.ensures c.number.ensures
