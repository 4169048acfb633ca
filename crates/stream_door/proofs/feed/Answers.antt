-- `stream_door::feed` meets its contract: a scan of the cells is the feed of the record that they are. Assumes nothing.
use mathlib.Core.Path.{sym, ap, ◌∙◌}
use native.Mathlib.Omega.{arith}
use Rattle.std.proofs.lemmas.Result.{err_from_is_err_and}
use Rattle.stream.proofs.Records.{whole}
use Rattle.stream.specs.declared.Stream.{Stream}
use Rattle.stream.specs.Feed.{feed_of}
use Rattle.stream_door.specs.Stream.{shown}
use Rattle.stream_door.proofs.Feeding.{all, found, feeds, same_record, feed_refused}
use Rattle.stream_door.proofs.feed.Goals as goal

pub returns-in_err-answer_of : goal.returns-in_err-answer_of
returns-in_err-answer_of c =
    let given = c.args in
    let same = same_record given.counts.now given.held.now c.counts_in-given.result c.told-held c.counts_in-given.ensures in
    let due = sym c.answer_of.ensures ∙ c.in_err-answer_of.was in
    let p = err_from_is_err_and c.from_residual.result c.from_residual.ensures.1 in
    rw (p.1, p.2)
    (feed_refused given.counts.now given.held.now given.piece.now given.output.now (whole c.counts_in-given.result given.held.now) c.in_err-answer_of.field-0.0 same due)

pub shared_ref_as_front-scan : goal.shared_ref_as_front-scan
shared_ref_as_front-scan c =
    let given = c.args in
    let due = sym c.answer_of.ensures ∙ c.in_ok-answer_of.was in
    (all c.counts_in-given.result given.held.now given.piece.now given.output.now c.told-held due).sound.few

pub hold-requires-clause-clean : goal.hold-requires-clause-clean
hold-requires-clause-clean c =
    let given = c.args in
    let due = sym c.answer_of.ensures ∙ c.in_ok-answer_of.was in
    let sound = (all c.counts_in-given.result given.held.now given.piece.now given.output.now c.told-held due).sound in
    (sound.few, sound.clean)

pub hold-requires-clause-place_bound : goal.hold-requires-clause-place_bound
hold-requires-clause-place_bound c =
    let given = c.args in
    let due = sym c.answer_of.ensures ∙ c.in_ok-answer_of.was in
    let finds = found c.counts_in-given.result given.held.now given.piece.now given.output.now c.told-held due c.scan-scanned.ensures in
    (finds.inside, finds.few)

pub overflow_add-next-2 : goal.overflow_add-next-2
overflow_add-next-2 c =
    let given = c.args in
    let due = sym c.answer_of.ensures ∙ c.in_ok-answer_of.was in
    let all = all c.counts_in-given.result given.held.now given.piece.now given.output.now c.told-held due in
    let finds = found c.counts_in-given.result given.held.now given.piece.now given.output.now c.told-held due c.scan-scanned.ensures in
    omega (arith, finds.inside, finds.place_is, all.sound.tally, all.fits)

pub overflow_add-next-3 : goal.overflow_add-next-3
overflow_add-next-3 c =
    let given = c.args in
    let due = sym c.answer_of.ensures ∙ c.in_ok-answer_of.was in
    let all = all c.counts_in-given.result given.held.now given.piece.now given.output.now c.told-held due in
    let finds = found c.counts_in-given.result given.held.now given.piece.now given.output.now c.told-held due c.scan-scanned.ensures in
    omega (arith, finds.inside, finds.place_is, all.sound.tally, all.fits)

pub returns : goal.returns
returns c =
    let given = c.args in
    let due = sym c.answer_of.ensures ∙ c.in_ok-answer_of.was in
    let same = same_record given.counts.now given.held.now c.counts_in-given.result c.told-held c.counts_in-given.ensures in
    rw (c.put_counts.ensures, c.hold.ensures)
    (feeds c.counts_in-given.result given.held.now given.piece.now given.output.now c.told-held due c.scan-scanned.ensures given.counts.now c.told-counts
    ∙ ap (λ (s : Stream). shown given.counts.now given.held.now (feed_of s given.piece.now given.output.now)) same)
