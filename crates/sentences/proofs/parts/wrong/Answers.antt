-- `parts::wrong` meets its contract: three parts. Assumes nothing.
use Rattle.text.proofs.Puts.{puts_then}
use Rattle.sentences.proofs.parts.wrong.Goals as goal

pub returns : goal.returns
returns c = puts_then (puts_then c.put.ensures c.hex.ensures) c.put-2.ensures
