-- `print::row` meets its contract: the first two columns, and then those of a frame that was read or of one that was refused. Assumes nothing.
use native.Mathlib.Omega.{arith}
use Rattle.std.proofs.Common.{rules}
use Rattle.text.proofs.Puts.{puts_then, handed_back}
use Rattle.hexline.proofs.Columns.{row_read, row_refused, for_short}
use Rattle.hexline.proofs.print.row.Goals as goal
use Rattle.hexline.proofs.print.row.Goals.{in-Ok, in-Err}

pub returns-then-out-lt-ROW : goal.returns-then-out-lt-ROW
returns-then-out-lt-ROW c = for_short _ _ _ c.if-out-lt-ROW.true

pub returns : goal.returns
returns c =
    elim c.match-read.branch [
      | in-Ok w ↦
          let said = puts_then (puts_then c.decimal.ensures w.column.ensures) w.accepted.ensures in
          rw (w.writer-is, w.in-Ok.is) (row_read _ _ c.if-out-lt-ROW.false c.ranges.number.fits _ (omega arith) (handed_back said (search rules)))
      | in-Err w ↦
          let said = puts_then (puts_then c.decimal.ensures (rw w.number.ensures at w.column-in-Err.ensures)) w.put.ensures in
          rw (w.writer-is, w.in-Err.is) (row_refused _ _ c.if-out-lt-ROW.false c.ranges.number.fits _ (handed_back said (search rules)))
    ]
