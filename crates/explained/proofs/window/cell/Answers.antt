-- `window::cell` meets its contract: brackets or spaces. Assumes nothing.
use Rattle.explained.specs.Window.{cell_of}
use Rattle.text.proofs.Puts.{puts_then}
use Rattle.explained.proofs.window.cell.Goals as goal
use Rattle.explained.proofs.window.cell.Goals.{then-marked, else-marked}

pub returns : goal.returns
unfolding cell_of
returns c =
    let said = puts_then (puts_then c.byte.ensures c.hex.ensures) c.byte-2.ensures in
    elim c.if-marked.branch [
      | then-marked w ↦ rw w.if-marked.true (rw w.left-is at said)
      | else-marked w ↦ rw w.if-marked.false (rw w.left-is at said)
    ]
