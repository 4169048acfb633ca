-- `lines` meets its contract: each turn puts one frame's line more, or nothing is written. Assumes nothing.
use native.Mathlib.Omega.{arith}
use Rattle.framed.proofs.Laying.{no_lines, line_more, too_many, too_few, no_room, lines_end}
use Rattle.framed.proofs.lines.Goals as goal

pub returns-then-count-gt-MOST : goal.returns-then-count-gt-MOST
returns-then-count-gt-MOST c = too_many _ _ _ (omega arith)

pub returns-then-frames-count : goal.returns-then-frames-count
returns-then-frames-count c = too_few _ _ _ (omega arith) c.if-frames-count.true

pub returns-then-out-count : goal.returns-then-out-count
returns-then-out-count c = no_room _ _ _ (omega arith) c.if-frames-count.false c.if-out-count.true

pub loop-t-init : goal.loop-t-init
loop-t-init c = no_lines _ _

pub loop-t-preserved : goal.loop-t-preserved
loop-t-preserved c = line_more _ _ _ c.loop-t.invariant _ (omega arith) (omega arith) c.line.ensures

pub returns : goal.returns
returns c =
    lines_end _ _ _ (omega arith) c.if-frames-count.false _ c.if-out-count.false (omega arith) (omega arith) c.loop-t.invariant
