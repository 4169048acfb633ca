-- `Reader::line_end` meets its contract: the line is a frame, or it is not. Assumes nothing.
use native.Mathlib.Omega.{arith}
use borrow.Author.Tests.{eq-eqb, ne_eqb}
use Rattle.hexline.specs.Reader.{line_end}
use Rattle.hexline.proofs.Steps.{next_number}
use Rattle.hexline.proofs.Reader.line_end.Goals as goal
use Rattle.hexline.proofs.Reader.line_end.Goals.{then-self-eq-FRAME, else-self-eq-FRAME}

pub returns : goal.returns
unfolding line_end
returns c =
    let number = next_number c.args.self.number (omega arith) in
    elim c.if-self-eq-FRAME.branch [
      | then-self-eq-FRAME w ↦ rw (w.line-is, c.saturating_add.ensures, number, eq-eqb _ _ w.if-self-eq-FRAME.true)
      | else-self-eq-FRAME w ↦ rw (w.line-is, c.saturating_add.ensures, number, ne_eqb _ _ w.if-self-eq-FRAME.false)
    ]
