-- `host_door::host_read` meets its contract: cells that are no record, or the read into the record that they are. Assumes nothing.
use mathlib.Core.Path.{◌≡◌, sym, ap, ◌∙◌}
use lib.Seq.{sets}
use Rattle.std.proofs.lemmas.Result.{err_from_is_err_and}
use Rattle.std.specs.Prelude.{Ok}
use Rattle.cells.specs.Cells.{returned_by, put_over}
use Rattle.cells.proofs.Cases.{enough, put_is, put_first}
use Rattle.host_cells.specs.Host.{host_cells}
use Rattle.host_from_cells.specs.FromCells.{host_most}
use Rattle.host_door.specs.HostCalls.{gave}
use Rattle.host_door.proofs.HostCases.{read_bad, read-refused, read_accepted}
use Rattle.host_door.proofs.host_read.Goals as goal

pub returns-then-not-is_host : goal.returns-then-not-is_host
returns-then-not-is_host c = sym (read_bad _ _ _ (sym c.is_host.ensures ∙ c.if-not-is_host.true))

pub returns-in_err-reading : goal.returns-in_err-reading
returns-in_err-reading c =
    let good = sym c.is_host.ensures ∙ c.if-not-is_host.false in
    let p = err_from_is_err_and c.from_residual.result c.from_residual.ensures.1 in
    rw (p.1, p.2) (read-refused _ _ _ good c.host_in.ensures _ _ c.in_err-reading.ensures)

pub returns : goal.returns
returns c =
    let cells = c.args.host.now in
    let good = sym c.is_host.ensures ∙ c.if-not-is_host.false in
    let reading = c.in_ok-reading.reading in
    let kept : c.put.new.to ≡ sets cells 0 (host_cells reading.host) =
    c.put.ensures ∙ put_is cells 0 _ ∙ ap (put_over cells 0) c.host_cells.ensures ∙ put_first cells (host_cells reading.host) (enough host_most cells good) in
    ap (λ l. gave (returned_by (Ok reading.address)) l c.read.new.audio) kept
    ∙ read_accepted _ _ _ good c.host_in.ensures reading c.read.new.audio c.in_ok-reading.ensures
