-- `shown` meets its contract: what is shown is what the read of the frame gave. Assumes nothing.
use Rattle.std.proofs.lemmas.Result.{err_from_is_err_and}
use Rattle.listed.proofs.Printing.{columns_read, columns_refused}
use Rattle.listed.proofs.shown.Goals as goal

pub returns-in_err-reading : goal.returns-in_err-reading
returns-in_err-reading c =
    let p = err_from_is_err_and c.from_residual.result c.from_residual.ensures.1 in
    let left = c.read.new in
    λ number. rw (p.1, p.2) (columns_refused number _ left.iq left.mic _ c.fresh.ensures c.read.result _ c.in_err-reading.was c.read.ensures)

pub returns : goal.returns
returns c = let left = c.read.new in λ number. rw c.field.ensures (columns_read number _ left.iq left.mic _ c.fresh.ensures c.read.result _ c.in_ok-reading.was c.read.ensures)
