-- `stream_cells::stream_in` meets its contract: no cells for a record, or each count from its cell and the held bytes. Assumes nothing.
use mathlib.Core.Path.{sym, ◌∙◌}
use Rattle.stream_cells.proofs.Cases.{stream_few, stream-held, of_first}
use Rattle.stream_cells.proofs.stream_in.Goals as goal

pub returns-in_default : goal.returns-in_default
returns-in_default c = c.fresh.ensures ∙ sym (stream_few _ _ (sym c.in_default.ensures.some))

pub returns : goal.returns
returns c =
    let cells = c.in-Some.ensures in
    rw (cells.cells.1, c.from-given.ensures) (sym (stream-held c.args.counts.now c.args.held.now (sym cells.some) ∙ of_first _ _ c.in-Some.counts.now cells.cells.0))
