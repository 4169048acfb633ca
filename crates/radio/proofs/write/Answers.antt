-- `write` meets its contract: refused for the count, refused by a test, or written. Assumes nothing.
use mathlib.Core.Path.{sym, ◌∙◌}
use native.Mathlib.Omega.{arith}
use Rattle.std.proofs.lemmas.Result.{err_from_is_err_and}
use Rattle.radio.proofs.FrameLaid.{frame_laid}
use Rattle.radio.proofs.WriteCases.{uncounted, untested, passed, good, write_gives}
use Rattle.radio.proofs.write.Goals as goal

pub returns-in_err-row : goal.returns-in_err-row
returns-in_err-row c =
    let p = err_from_is_err_and c.from_residual.result c.from_residual.ensures.1 in
    rw (p.1, p.2) (uncounted _ _ _ _ _ _ _ (sym c.row_of.ensures ∙ c.in_err-row.was))

pub returns-in_err-write_refusal : goal.returns-in_err-write_refusal
returns-in_err-write_refusal c =
    let p = err_from_is_err_and c.from_residual-in_err-write_refusal.result c.from_residual-in_err-write_refusal.ensures.1 in
    rw (p.1, p.2) (untested _ _ _ _ _ _ _ (sym c.row_of.ensures ∙ c.in_ok-row.was) _ (sym c.write_refusal.ensures ∙ c.in_err-write_refusal.was))

pub overflow_cast-word : goal.overflow_cast-word
overflow_cast-word c =
    let is = passed _ _ _ _ c.args.mic.now c.args.frame.now _ (sym c.row_of.ensures ∙ c.in_ok-row.was) (sym c.write_refusal.ensures ∙ c.in_ok-write_refusal.was) in
    let all = good c.args.status c.args.word c.args.receivers c.args.iq.now _ _ is in
    omega (arith, all.listed)

pub returns : goal.returns
returns c =
    let given = c.args in
    let is = passed _ _ _ _ given.mic.now given.frame.now _ (sym c.row_of.ensures ∙ c.in_ok-row.was) (sym c.write_refusal.ensures ∙ c.in_ok-write_refusal.was) in
    write_gives _ _ _ _ _ _ is _
    (frame_laid given.status given.word given.receivers given.iq.now given.mic.now given.frame.now (good _ _ _ _ _ _ is) _ (rw c.write_header.ensures at c.write_samples.ensures))
