-- `layout::row_of` meets its contract: a count outside the table, or its row. Assumes nothing.
use mathlib.Core.Path.{ap}
use borrow.Author.Tests.{le-leb}
use Rattle.std.specs.Prelude.{Ok}
use Rattle.layout.proofs.Table.{row_at, row_known}
use Rattle.layout.proofs.row_of.Goals as goal

pub invariant_of-result : goal.invariant_of-result
invariant_of-result c =
    let at = row_at c.args.receivers record { slot = 0; slots = 0; padding = 0 } c.if-receivers-lt1.false c.if-receivers-gt8.false in
    record { rule = record { slot_is = ap (λ e. e.slot) at; slots_is = ap (λ e. e.slots) at; padding_is = ap (λ e. e.padding) at } }

pub returns : goal.returns
returns c =
    let some = c.if-receivers-lt1.false in
    let few = c.if-receivers-gt8.false in
    rw (le-leb 1 _ some, le-leb _ 8 few) (ap Ok (row_known _))
