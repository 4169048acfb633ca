-- Any two results that the contract of a call admits coincide. Assumes nothing.
use mathlib.Core.Path.{◌≡◌, refl, sym, ap, ◌∙◌}
use mathlib.Core.List.{List}
use Prim.Native.Nat.{ℕ}
use Rattle.std.specs.Prelude.{Result, Ok, Err}
use Rattle.wire.proofs.Settled.{settled}
use Rattle.wire.specs.Answers.{Answer}
use Rattle.wire.specs.declared.Refusal.{Refusal}
use Rattle.why.specs.Runs.{run_of}
use Rattle.why.specs.Why.{Why, gave, why_of}
use Rattle.why.specs.declared.Reason.{Reason}
use Rattle.why.specs.declared.runs.Run.{Run}

-- an outcome tells the result
abbrev result_of : Answer → Reason → Result Reason Refusal
result_of (Ok _) reason = Ok reason
result_of (Err refusal) reason = Err refusal

told : (r : Result Reason Refusal) → result_of (gave r).answer (gave r).reason ≡ r
told (Ok reason) = refl
told (Err refusal) = refl

pub explain_settled : (input : List ℕ) (place : ℕ) (r s : Result Reason Refusal) → gave r ≡ why_of input place → gave s ≡ why_of input place → r ≡ s
explain_settled input place r s p q =
    sym (told r) ∙ ap (λ (w : Why). result_of w.answer w.reason) (settled p q) ∙ told s

pub run_settled : (input : List ℕ) (start : ℕ) (r s : Run) → r ≡ run_of input start → s ≡ run_of input start → r ≡ s
run_settled input start r s p q = settled p q
