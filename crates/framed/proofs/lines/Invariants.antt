-- What the loop of `lines` keeps: the lines of the frames so far stand at the start of the slice. Assumes nothing.
use Prim.Native.Nat.{◌*◌}
use Rattle.text.specs.Put.{Put}
use Rattle.framed.specs.Hexadecimal.{lines_of}
use Rattle.framed.proofs.lines.Given as goal

abbrev pub invariant-loop-t : goal.invariant-loop-t
invariant-loop-t l = Put l.initial.out 0 (lines_of l.t l.frames) (l.t * 1025) l.out
