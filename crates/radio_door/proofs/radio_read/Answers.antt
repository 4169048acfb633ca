-- `radio_door::radio_read` meets its contract: refused, the cells are as they were; accepted, the record after it is put over them. Assumes
-- nothing.
use mathlib.Core.Path.{ap, ◌∙◌}
use Rattle.std.proofs.lemmas.Result.{err_from_is_err_and}
use Rattle.cells.specs.Cells.{got, put_over}
use Rattle.cells.proofs.Cases.{put_is}
use Rattle.radio_door.specs.Radio.{gave}
use Rattle.radio_door.proofs.RadioCases.{read_refused, read_taken}
use Rattle.radio_door.proofs.radio_read.Goals as goal

pub returns-in_err-reading : goal.returns-in_err-reading
returns-in_err-reading c =
    let p = err_from_is_err_and c.from_residual-in_err-reading.result c.from_residual-in_err-reading.ensures.1 in
    rw (p.1, p.2) (read_refused _ _ _ _ _ _ c.in_ok-given.ensures _ _ _ c.in_err-reading.ensures)

pub returns : goal.returns
returns c =
    let put = c.put.ensures ∙ put_is _ _ _ ∙ ap (put_over c.args.status.now 0) c.status_cells.ensures in
    (λ i. gave (got 0 (c.from.ensures i)) (put i) c.read.new.iq c.read.new.mic)
    ∙ read_taken _ _ _ _ _ _ c.in_ok-given.ensures _ _ _ c.in_ok-reading.ensures
