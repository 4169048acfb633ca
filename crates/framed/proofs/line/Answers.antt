-- `line` meets its contract: each turn puts the digits of one byte more, and the newline comes last. Assumes nothing.
use native.Mathlib.Omega.{arith}
use Rattle.framed.proofs.Laying.{byte_more, line_ends}
use Rattle.framed.proofs.line.Goals as goal

pub loop-k-preserved : goal.loop-k-preserved
loop-k-preserved c = rw (c.digit.ensures, c.digit-in-loop-k.ensures) (byte_more _ _ _ c.loop-k.invariant (omega arith))

pub returns : goal.returns
returns c = line_ends _ _ _ c.loop-k.invariant (omega arith) (omega arith) (omega arith) (omega arith)
