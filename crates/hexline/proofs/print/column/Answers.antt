-- `print::column` meets its contract: a space, and then the number. Assumes nothing.
use Rattle.text.proofs.Puts.{puts_then}
use Rattle.hexline.proofs.print.column.Goals as goal

pub returns : goal.returns
returns c = rw (← c.from.ensures) (puts_then c.byte.ensures c.decimal.ensures)
