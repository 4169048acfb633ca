-- The loop of `cells::within`: after i turns the first i of the cells are tested. Assumes nothing.
use lib.ListN.{length}
use Rattle.cells.proofs.Tested.{Tested}
use Rattle.cells.proofs.within.Given as goal

abbrev pub invariant-loop-cell : goal.invariant-loop-cell
invariant-loop-cell l = Tested l.most l.cells l.so_far (length l.yielded)
