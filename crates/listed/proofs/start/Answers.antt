-- `start` meets its contract: no line ended, the line is a frame, or it is answered LENGTH. Assumes nothing.
use mathlib.Core.Path.{refl}
use Rattle.std.specs.Prelude.{Err}
use Rattle.wire.specs.declared.Refusal.TheVariants.{Length as Refused}
use Rattle.hexline.specs.declared.Line.TheVariants.{Frame, Length}
use Rattle.listed.specs.Rows.{row_text}
use Rattle.listed.proofs.Printing.{one_row, row_printed}
use Rattle.listed.proofs.start.Goals as goal
use Rattle.listed.proofs.start.Goals.{in-Frame, in-Length}

pub returns : goal.returns
unfolding row_text
returns c =
    let taken = c.args.taken in
    let number = taken.reader.number in
    let out = c.args.out.now in
    elim c.match-taken.branch [
      | in-Frame w ↦
          one_row taken out Frame _ _ w.in-Frame.is refl
          (row_printed number w.shown-read.result out _ _ (w.shown-read.ensures number) (rw w.read-is at c.row.ensures))
      | in-Length w ↦ one_row taken out Length _ _ w.in-Length.is refl (row_printed number (Err Refused) out _ _ refl (rw w.read-is at c.row.ensures))
    ]
