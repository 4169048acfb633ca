-- Any two outcomes that the contract of the call admits coincide: the result, and the output as it returns. Assumes nothing.
use mathlib.Core.Path.{◌≡◌, refl, sym, ap, ◌∙◌}
use mathlib.Core.List.{List}
use Prim.Native.Nat.{ℕ}
use Rattle.std.specs.Prelude.{Result, Ok, Err}
use Rattle.wire.specs.Answers.{Answer}
use Rattle.wire.specs.declared.Refusal.{Refusal}
use Rattle.plain.specs.Plain.{Outcome, gave, plain_of}
use Rattle.plain.specs.declared.Plain.{Plain}
use Rattle.wire.proofs.Settled.{settled}

-- an outcome tells the result
abbrev result_of : Answer → Outcome → Result Plain Refusal
result_of (Ok _) o = Ok (record { frames = o.frames; skipped = o.skipped; left = o.left })
result_of (Err refusal) o = Err refusal

told : (r : Result Plain Refusal) (output : List ℕ) → (result_of (gave r output).answer (gave r output) ≡ r) × ((gave r output).output ≡ output)
told (Ok r) output = (refl, refl)
told (Err refusal) output = (refl, refl)

pub read_settled : (input output : List ℕ) (r s : Result Plain Refusal) (out-r out-s : List ℕ) → gave r out-r ≡ plain_of input output → gave s out-s ≡ plain_of input output → (r ≡ s) × (out-r ≡ out-s)
read_settled input output r s out-r out-s p q =
    let same : gave r out-r ≡ gave s out-s = settled p q in
    let one = told r out-r in
    let other = told s out-s in
    (sym one.0 ∙ ap (λ (o : Outcome). result_of o.answer o) same ∙ other.0, sym one.1 ∙ ap (λ (o : Outcome). o.output) same ∙ other.1)
