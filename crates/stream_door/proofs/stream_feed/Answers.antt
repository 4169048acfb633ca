-- `stream_door::stream_feed` meets its contract: no cells for a record, or a feed of the first of them. Assumes nothing.
use mathlib.Core.Path.{sym, ap, ◌∙◌}
use mathlib.Core.List.{◌++◌}
use lib.ListN.{drop, take-append-drop}
use Rattle.cells.specs.Cells.{bad_state}
use Rattle.stream_cells.proofs.Cases.{there_are, few_counts, few_bytes}
use Rattle.stream_door.specs.Stream.{gave}
use Rattle.stream_door.proofs.StreamCases.{feed_bad, feed_good}
use Rattle.stream_door.proofs.Feeding.{feeds_first}
use Rattle.stream_door.proofs.stream_feed.Goals as goal

pub returns-in_default : goal.returns-in_default
returns-in_default c = sym (feed_bad _ _ _ _ (few_counts c.args.counts.now c.args.held.now c.in_default.ensures.cases))

pub returns-in_default-first_chunk_mut : goal.returns-in_default-first_chunk_mut
returns-in_default-first_chunk_mut c =
    let counts = c.args.counts.now in
    let few = few_bytes counts c.args.held.now c.in_default-first_chunk_mut.ensures.cases in
    let same = ap (λ l. l ++ drop 4 counts) c.in-Some.ensures.cases.same ∙ take-append-drop 4 counts in
    ap (λ l. gave bad_state l c.args.held.now c.args.output.now) same ∙ sym (feed_bad _ _ _ _ few)

pub returns : goal.returns
returns c =
    let given = c.args in
    let counts = c.in-Some.ensures.cases in
    let held = c.in-Some-first_chunk_mut.ensures.cases in
    feeds_first given.counts.now given.held.now given.piece.now given.output.now counts.enough held.enough _ _ counts.same held.same _ _ _ _ c.feed.ensures
    ∙ sym (feed_good _ _ _ _ (there_are given.counts.now given.held.now counts.enough held.enough))
