-- `View::row` meets its contract: the label, a colon, the bytes and a newline. Assumes nothing.
use Rattle.explained.specs.Window.{row_of}
use Rattle.text.proofs.Puts.{puts_then}
use Rattle.explained.proofs.window.View.row.Goals as goal

pub returns : goal.returns
unfolding row_of
returns c = puts_then (puts_then (puts_then c.labelled.ensures c.byte.ensures) c.cells.ensures) c.byte-2.ensures
