-- `View::of_frame` meets its contract: around the frame's first byte, if that is another place, and 512 later. Assumes nothing.
use borrow.Author.Tests.{eq-eqb, ne_eqb}
use Rattle.explained.specs.Window.{frame_windows}
use Rattle.text.proofs.Puts.{puts_then}
use Rattle.explained.proofs.window.View.of_frame.Goals as goal
use Rattle.explained.proofs.window.View.of_frame.Goals.{then-q-place, else-q-place}

pub returns : goal.returns
unfolding frame_windows
returns c =
    elim c.if-q-place.branch [
      | then-q-place w ↦ rw (ne_eqb _ _ w.if-q-place.true) (puts_then w.window.ensures (rw w.writer-is at c.window-2.ensures))
      | else-q-place w ↦ rw (eq-eqb _ _ w.if-q-place.false) (rw w.writer-is at c.window-2.ensures)
    ]
