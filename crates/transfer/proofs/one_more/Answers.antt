-- `one_more` meets its contract: the frame and the rest of both slices are lent to its single read. Assumes nothing.
use Rattle.std.proofs.lemmas.Result.{err_from_is_err_and}
use Rattle.transfer.proofs.OneMore.{one_read, one_refused}
use Rattle.transfer.proofs.one_more.Goals as goal

pub returns-in_err-reading : goal.returns-in_err-reading
returns-in_err-reading c =
    let p = err_from_is_err_and c.from_residual.result c.from_residual.ensures.1 in
    let slots = c.args.row.rule.slots_is in
    rw (p.1, p.2) (one_refused _ _ _ c.values.ensures slots _ _ _ _ _ c.requires.one_frame c.requires.ready _ _ _ c.in_err-reading.ensures)

pub returns : goal.returns
returns c =
    let slots = c.args.row.rule.slots_is in
    one_read _ _ _ c.values.ensures slots _ _ _ _ _ c.requires.one_frame c.requires.ready _ _ _ c.in_ok-reading.ensures
