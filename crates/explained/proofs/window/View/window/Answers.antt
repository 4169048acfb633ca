-- `View::window` meets its contract: to the input's end, or as far as a window goes. Assumes nothing.
use Rattle.explained.specs.Window.{window_of}
use Rattle.explained.proofs.Cells.{window_end}
use Rattle.explained.proofs.window.View.window.Goals as goal

pub returns : goal.returns
unfolding window_of
returns c =
    rw window_end (rw (c.saturating_sub.ensures, c.min-past.ensures, c.saturating_sub-from.ensures) at c.row.ensures)
