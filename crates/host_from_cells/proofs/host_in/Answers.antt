-- `host_from_cells::host_in` meets its contract: the record of the first cells, or too few of them. Assumes nothing.
use mathlib.Core.Path.{sym, ap, ◌∙◌}
use Rattle.host_from_cells.specs.FromCells.{host_of}
use Rattle.host_from_cells.proofs.Cases.{host_of_first, host_few, host_held}
use Rattle.host_from_cells.proofs.host_in.Goals as goal

pub returns-in-Some : goal.returns-in-Some
returns-in-Some c =
    let cells = c.args.cells.now in
    let chunk = c.in-Some.ensures.cases in
    c.host_of.ensures ∙ ap host_of chunk.same ∙ host_of_first cells chunk.enough ∙ sym (host_held cells chunk.enough)

pub returns-in-None : goal.returns-in-None
returns-in-None c = c.fresh.ensures ∙ sym (host_few c.args.cells.now c.in-None.ensures.cases)
