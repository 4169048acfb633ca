-- `stream_cells::put_stream` meets its contract: no cells for a record, or the counts and the held bytes in them. Assumes nothing.
use mathlib.Core.Path.{◌≡◌, sym}
use lib.ListN.{length}
use Rattle.stream_cells.proofs.Cases.{there_are, few_counts, few_bytes, put_few, put_none, put_over}
use borrow.Author.Rules.{rules}
use Rattle.stream_cells.proofs.put_stream.Goals as goal

pub returns-in_default : goal.returns-in_default
returns-in_default c =
    let few = few_counts c.args.counts.now c.args.held.now c.in_default.ensures.cases in
    record { answer = rw few; cells = sym (put_few _ _ c.args.stream few) }

pub returns-in_default-first_chunk_mut : goal.returns-in_default-first_chunk_mut
returns-in_default-first_chunk_mut c =
    let few = few_bytes c.args.counts.now c.args.held.now c.in_default-first_chunk_mut.ensures.cases in
    record { answer = rw few; cells = put_none _ _ c.args.stream c.in-Some.counts.now c.in-Some.ensures.cases.same few }

pub returns : goal.returns
returns c =
    let room = there_are c.args.counts.now c.args.held.now c.in-Some.ensures.cases.enough c.in-Some-first_chunk_mut.ensures.cases.enough in
    let full : length c.args.stream.held ≡ 514 = search rules in
    record { answer = rw room; cells = rw (c.into.ensures, c.counts.ensures) (sym (put_over _ _ c.args.stream room full)) }
