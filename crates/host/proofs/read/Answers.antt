-- `host::read` meets its contract: refused, or the frame's numbers and its word. Assumes nothing.
use mathlib.Core.Path.{◌≡◌, refl, sym, ap, ◌∙◌}
use lib.ListN.{length, length-drop}
use Rattle.std.proofs.lemmas.Result.{err_from_is_err_and}
use Rattle.wire.specs.Answers.{Accepted, first}
use Rattle.host.proofs.ReadCases.{accepted_good, same_outcome, refused_by, read_accepted}
use Rattle.host_samples.proofs.Slots.{payload_part}
use Rattle.host_samples.proofs.Lengths.{is_whole, all_read}
use Rattle.host.specs.Read.{refusals}
use Rattle.host_samples.specs.Samples.{slots_read}
use Rattle.host_words.specs.Words.{after, address}
use Rattle.host.proofs.read.Goals as goal

pub returns-in_err-refusal : goal.returns-in_err-refusal
returns-in_err-refusal c =
    let p = err_from_is_err_and c.from_residual.result c.from_residual.ensures.1 in
    rw (p.1, p.2) (sym (refused_by _ _ _ _ (sym c.refusal.ensures ∙ c.in_err-refusal.was)))

pub returns : goal.returns
returns c =
    let given = c.args in
    let word = c.of-c.ensures in
    let passed : first (refusals given.frame.now (length given.audio.now)) ≡ Accepted = sym c.refusal.ensures ∙ c.in_ok-refusal.was in
    let good = accepted_good given.frame.now (length given.audio.now) passed in
    same_outcome
    refl
    (c.address.ensures ∙ ap address word)
    (c.next.ensures ∙ ap (λ w. after w given.host) word)
    (c.read_slots.ensures ∙ ap (λ p. slots_read p given.audio.now) (payload_part given.frame.now) ∙ all_read _ _ (is_whole _ _ (rw (length-drop 8 given.frame.now, good.long)) good.fits))
    ∙ sym (read_accepted _ _ _ passed)
