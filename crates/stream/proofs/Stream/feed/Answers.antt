-- `Stream::feed` meets its contract: the answer that is due decides. Assumes nothing.
use mathlib.Core.Path.{sym, ◌∙◌}
use lib.ListN.{length}
use Rattle.std.proofs.lemmas.Result.{err_from_is_err_and}
use Rattle.stream.proofs.Calls.{of_numbers, passes, refused_by, fed}
use Rattle.stream.proofs.Stream.feed.Goals as goal

pub returns-in_err-answer_of : goal.returns-in_err-answer_of
returns-in_err-answer_of c =
    let due = of_numbers c.args.self (length c.args.piece.now) (length c.args.output.now) c.counts.result c.counts.ensures c.answer_of.ensures in
    let p = err_from_is_err_and c.from_residual.result c.from_residual.ensures.1 in
    rw (p.1, p.2) (sym (refused_by _ _ _ _ (sym due ∙ c.in_err-answer_of.was)))

pub read_on-requires : goal.read_on-requires
read_on-requires c =
    let due = of_numbers c.args.self (length c.args.piece.now) (length c.args.output.now) c.counts.result c.counts.ensures c.answer_of.ensures in
    let all = passes _ _ _ (sym due ∙ c.in_ok-answer_of.was) in
    record { few = all.sound.few; tally = all.sound.tally; fits = all.fits; short = all.short; room = all.room }

pub returns : goal.returns
returns c =
    let due = of_numbers c.args.self (length c.args.piece.now) (length c.args.output.now) c.counts.result c.counts.ensures c.answer_of.ensures in
    c.read_on.ensures ∙ sym (fed _ _ _ (passes _ _ _ (sym due ∙ c.in_ok-answer_of.was)))
