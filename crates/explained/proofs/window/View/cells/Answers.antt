-- `View::cells` meets its contract: each turn puts one byte more. Assumes nothing.
use Rattle.explained.proofs.Cells.{no_cells, cell_more}
use Rattle.explained.proofs.window.View.cells.Goals as goal

pub loop-i-init : goal.loop-i-init
loop-i-init c = no_cells _ _ _

pub loop-i-preserved : goal.loop-i-preserved
loop-i-preserved c = cell_more _ _ _ _ c.loop-i.invariant (rw (c.byte_after.ensures, c.marks-marked.ensures) at c.cell.ensures)
