-- What the loop of `read_frames` keeps: what is left to read leaves what all frames leave from the start. Assumes nothing.
use Rattle.transfer.proofs.InOrder.{Going}
use Rattle.transfer.proofs.read_frames.Given as goal

abbrev pub invariant-loop-frame : goal.invariant-loop-frame
invariant-loop-frame l = Going l.row.receivers l.input l.fn.status l.initial.iq l.initial.mic l.iq l.mic l.frame l.last
