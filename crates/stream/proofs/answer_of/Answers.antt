-- `answer_of` takes the sum of a sound record only: it fits. Assumes nothing.
use mathlib.Core.Path.{sym, ◌∙◌}
use native.Mathlib.Omega.{arith}
use Rattle.stream.proofs.Records.{sound_told}
use Rattle.stream.proofs.answer_of.Goals as goal

pub overflow_add-counts : goal.overflow_add-counts
overflow_add-counts c =
    let told = sound_told _ (sym c.is_sound.ensures ∙ c.if-not-is_sound.false) in
    omega (arith, told.small)
