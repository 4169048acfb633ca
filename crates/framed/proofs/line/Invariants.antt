-- What the loop of `line` keeps: the digits of the bytes so far stand at the start of the slice. Assumes nothing.
use Prim.Native.Nat.{◌*◌}
use lib.ListN.{take}
use Rattle.text.specs.Put.{Put}
use Rattle.framed.specs.Hexadecimal.{digits_of}
use Rattle.framed.proofs.line.Given as goal

abbrev pub invariant-loop-k : goal.invariant-loop-k
invariant-loop-k l = Put l.initial.out 0 (digits_of (take l.k l.frame)) (l.k * 2) l.out
