-- `add` meets its contract: the next place is within the buffer, so that its rows can be written. Assumes nothing.
use Rattle.std.proofs.Common.{subst, ◌∙◌, arith}
use Rattle.std.specs.Io.KnownBytes.{Appends}
use Rattle.std.proofs.lemmas.Result.{on_ok_weaker}
use Rattle.listed.proofs.Printing.{row_inside}
use Rattle.listing.proofs.Gather.{taken_row, row_written, when_full, when_not_full, written_when_full, none_when_not_full, appends_none}
use Rattle.listing.proofs.rows.Rows.add.Goals as goal

-- the next place is within the buffer
pub overflow_sub-next : goal.overflow_sub-next
overflow_sub-next g c = let within = row_inside _ _ _ _ _ c.row-next.ensures c.row-next.auto.out (omega arith) in omega arith

pub shared_ref_as_front-write : goal.shared_ref_as_front-write
shared_ref_as_front-write g c = let within = row_inside _ _ _ _ _ c.row-next.ensures c.row-next.auto.out (omega arith) in omega arith

pub returns-then-next-lt-ROW-clause-row : goal.returns-then-next-lt-ROW-clause-row
returns-then-next-lt-ROW-clause-row g c =
    let within = row_inside _ _ _ _ _ c.row-next.ensures c.row-next.auto.out (omega arith) in
    when_full _ _ (omega arith) ∙ taken_row c.args.self.now.waiting c.args.self.now.out c.args.self.now.room c.args.taken _ c.row-next.ensures

pub returns-then-next-lt-ROW-clause-written : goal.returns-then-next-lt-ROW-clause-written
returns-then-next-lt-ROW-clause-written g c =
    let within = row_inside _ _ _ _ _ c.row-next.ensures c.row-next.auto.out (omega arith) in
    let rows = written_when_full c.row-next.result c.row-next.new.out (omega arith) ∙ row_written c.args.self.now.waiting c.args.self.now.out c.args.self.now.room c.args.taken _ c.row-next.ensures in
    on_ok_weaker _ (subst (Appends (g.W.Write.contents c.args.self.now.output) (g.W.Write.contents c.write.new.output)) rows) c.write.ensures.written

pub returns-clause-row : goal.returns-clause-row
returns-clause-row g c =
    let within = row_inside _ _ _ _ _ c.row-next.ensures c.row-next.auto.out (omega arith) in
    when_not_full _ _ (omega arith) ∙ taken_row c.args.self.now.waiting c.args.self.now.out c.args.self.now.room c.args.taken _ c.row-next.ensures

pub returns-clause-written : goal.returns-clause-written
returns-clause-written g c =
    let within = row_inside _ _ _ _ _ c.row-next.ensures c.row-next.auto.out (omega arith) in
    let rows = none_when_not_full c.row-next.result c.row-next.new.out (omega arith) ∙ row_written c.args.self.now.waiting c.args.self.now.out c.args.self.now.room c.args.taken _ c.row-next.ensures in
    subst (Appends (g.W.Write.contents c.args.self.now.output) (g.W.Write.contents c.args.self.now.output)) rows (appends_none (g.W.Write.contents c.args.self.now.output))
