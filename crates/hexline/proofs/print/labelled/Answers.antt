-- `print::labelled` meets its contract: the text, and then the number. Assumes nothing.
use Rattle.text.proofs.Puts.{puts_then}
use Rattle.hexline.proofs.print.labelled.Goals as goal

pub returns : goal.returns
returns c = puts_then c.put.ensures c.decimal.ensures
