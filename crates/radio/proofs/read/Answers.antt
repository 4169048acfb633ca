-- `read` meets its contract: refused for the count, by a test or for a level, or read. Assumes nothing.
use mathlib.Core.Path.{sym, ap, ◌∙◌}
use native.Mathlib.Omega.{arith}
use Rattle.std.proofs.lemmas.Result.{err_from_is_err_and}
use Rattle.wire.specs.Answers.{Accepted}
use Rattle.layout.proofs.Lookup.{found}
use Rattle.radio.specs.Read.{byte, acceptance}
use Rattle.radio.proofs.Rest.{rest_whole}
use Rattle.radio.proofs.Cases.{uncounted, untested, unleveled, frame_long, levels_left, levels_came, read_gives, samples-taken}
use Rattle.radio.proofs.read.Goals as goal

pub returns-in_err-row : goal.returns-in_err-row
returns-in_err-row c =
    let p = err_from_is_err_and c.from_residual.result c.from_residual.ensures.1 in
    rw (p.1, p.2) (uncounted _ _ _ _ _ _ (sym c.row_of.ensures ∙ c.in_err-row.was))

pub returns-in_err-refusal : goal.returns-in_err-refusal
returns-in_err-refusal c =
    let p = err_from_is_err_and c.from_residual-in_err-refusal.result c.from_residual-in_err-refusal.ensures.1 in
    rw (p.1, p.2) (untested _ _ _ _ _ _ _ (sym c.row_of.ensures ∙ c.in_ok-row.was) (sym c.refusal.ensures ∙ c.in_err-refusal.was))

pub returns-in_err-levels : goal.returns-in_err-levels
returns-in_err-levels c =
    let p = err_from_is_err_and c.from_residual-in_err-levels.result c.from_residual-in_err-levels.ensures.1 in
    let levels = rw c.of-control.ensures at c.levels_of.ensures in
    rw (p.1, p.2) (unleveled _ _ _ _ _ _ _ (sym c.row_of.ensures ∙ c.in_ok-row.was) (sym c.refusal.ensures ∙ c.in_ok-refusal.was) (sym levels ∙ c.in_err-levels.was))

pub slice_bounds-read_samples-count : goal.slice_bounds-read_samples-count
slice_bounds-read_samples-count c =
    let long = frame_long _ _ _ _ (sym c.refusal.ensures ∙ c.in_ok-refusal.was) in
    omega (arith, long)

pub slice_bounds-read_samples-start : goal.slice_bounds-read_samples-start
slice_bounds-read_samples-start c =
    let long = frame_long _ _ _ _ (sym c.refusal.ensures ∙ c.in_ok-refusal.was) in
    omega (arith, long)

pub returns : goal.returns
returns c =
    let given = c.args in
    let frame = given.frame.now in
    let row = found given.receivers _ (sym c.row_of.ensures ∙ c.in_ok-row.was) in
    let passed = rw row.1 at (sym c.refusal.ensures ∙ c.in_ok-refusal.was) in
    let levels = rw c.of-control.ensures at c.levels_of.ensures in
    let came = levels_came frame c.in_ok-levels.levels (sym levels ∙ c.in_ok-levels.was) in
    let is = levels_left _ _ _ _ row.0 passed ∙ came.0 in
    let word = rw c.of-control.ensures at c.decode-word.ensures in
    let after = rw (c.of-control.ensures, word) at c.apply.ensures in
    let samples = rw (rest_whole frame 8) at c.read_samples.ensures ∙ samples-taken _ _ _ _ given.status is in
    read_gives _ _ _ _ _ is _ _ _
    ((λ i. record { answer = Accepted; word = word i; status = after i }) ∙ ap (λ w. acceptance (byte frame 3) w given.status) came.1)
    (ap (λ p. p.0) samples) (ap (λ p. p.1) samples)
