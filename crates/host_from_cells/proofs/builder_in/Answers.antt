-- `host_from_cells::builder_in` meets its contract: the record of its cells and the turn after it, or too few of them. Assumes nothing.
use mathlib.Core.Path.{◌≡◌, sym, ap, ◌∙◌}
use Prim.Native.Nat.{◌%◌, ◌<◌, ◌≤◌}
use native.Mathlib.Omega.{arith}
use borrow.Author.Tests.{ltb-true, ltb-false}
use lib.ListN.{length}
use Rattle.std.proofs.lemmas.List.{get_or_read}
use Rattle.cells.specs.Cells.{number}
use Rattle.host_cells.specs.Host.{host_count}
use Rattle.host_from_cells.proofs.Cases.{host_held, builder_few, builder_held}
use Rattle.host_from_cells.proofs.builder_in.Goals as goal

pub returns-in-Some : goal.returns-in-Some
returns-in-Some c =
    let cells = c.args.cells.now in
    let found = c.in-Some.ensures.lookup in
    let inside : host_count < length cells = ltb-true _ _ (sym found.0) in
    let turn : c.byte.result ≡ number 8 cells host_count = c.byte.ensures ∙ ap (λ n. n % 256) (get_or_read cells host_count _ inside found.1 0) in
    let host = c.host_in.ensures ∙ host_held cells (omega arith) in
    (λ i. record { host = host i; turn = turn i }) ∙ sym (builder_held cells (omega arith))

pub returns-in-None : goal.returns-in-None
returns-in-None c =
    let few : length c.args.cells.now ≤ host_count = ltb-false _ _ (sym c.in-None.ensures.lookup.0) in
    c.fresh.ensures ∙ sym (builder_few c.args.cells.now (omega arith))
