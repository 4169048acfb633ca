-- What the loop of `View::cells` keeps: the bytes so far are put. Assumes nothing.
use Rattle.text.specs.Put.{Puts}
use Rattle.explained.specs.Window.{cells_of}
use Rattle.explained.proofs.window.View.cells.Given as goal

abbrev pub invariant-loop-i : goal.invariant-loop-i
invariant-loop-i l = Puts l.initial.writer l.writer (cells_of l.self.input.now l.self.looked l.from l.i)
