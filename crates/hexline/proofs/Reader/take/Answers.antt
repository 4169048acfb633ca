-- `Reader::take` meets its contract: after each byte, what is left of the chunk makes what the whole chunk makes. Assumes nothing.
use mathlib.Core.Path.{◌∙◌}
use native.Mathlib.Omega.{arith}
use Rattle.hexline.proofs.Steps.{reading_ends, reading_line, reading_parts}
use Rattle.hexline.proofs.Reader.take.Goals as goal

pub returns-then-b-eq-NEWLINE : goal.returns-then-b-eq-NEWLINE
returns-then-b-eq-NEWLINE c = c.line_end.ensures ∙ reading_line _ _ _ _ c.loop-at.invariant (omega arith) c.if-b-eq-NEWLINE.true

pub loop-at-preserved : goal.loop-at-preserved
loop-at-preserved c = reading_parts _ _ _ _ c.loop-at.invariant (omega arith) _ _ c.byte-count.ensures.digits c.byte-count.ensures.counted c.if-b-eq-NEWLINE.false

pub returns : goal.returns
returns c = reading_ends _ _ _ _ c.loop-at.invariant (omega arith)
