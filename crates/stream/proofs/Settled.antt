-- Any two outcomes that a call's contract admits coincide. Assumes nothing.
use mathlib.Core.Path.{◌≡◌, refl, sym, ap, ◌∙◌}
use mathlib.Core.Bool.{Bool}
use mathlib.Core.List.{List}
use Prim.Native.Nat.{ℕ}
use native.Mathlib.Omega.{arith}
use Rattle.std.specs.Prelude.{Result, Ok, Err}
use Rattle.wire.specs.Answers.{Answer}
use Rattle.wire.specs.declared.Refusal.{Refusal}
use Rattle.stream.specs.Feed.{Outcome, gave, feed_of}
use Rattle.stream.specs.Record.{fresh_of, sound_of}
use Rattle.stream.specs.Steps.{Scans}
use Rattle.stream.specs.declared.Stream.{Stream}
use Rattle.stream.specs.declared.Fed.{Fed}
use Rattle.stream.specs.declared.scan.Scanned.{Scanned}
use Rattle.wire.proofs.Settled.{settled}

pub fresh_settled : (r s : Stream) → r ≡ fresh_of → s ≡ fresh_of → r ≡ s
fresh_settled r s = settled

pub sound_settled : (given : Stream) (r s : Bool) → r ≡ sound_of given → s ≡ sound_of given → r ≡ s
sound_settled given r s = settled

-- an outcome tells the result
abbrev result_of : Answer → Outcome → Result Fed Refusal
result_of (Ok _) o = Ok (record { frames = o.frames; next = o.next })
result_of (Err refusal) o = Err refusal

told : (given : Stream) (r : Result Fed Refusal) (output : List ℕ) → (result_of (gave given r output).answer (gave given r output) ≡ r) × ((gave given r output).output ≡ output)
told given (Ok r) output = (refl, refl)
told given (Err refusal) output = (refl, refl)

-- the result, and the output as the call returns
pub feed_settled : (given : Stream) (piece output : List ℕ) (r s : Result Fed Refusal) (out-r out-s : List ℕ) → gave given r out-r ≡ feed_of given piece output → gave given s out-s ≡ feed_of given piece output → (r ≡ s) × (out-r ≡ out-s)
feed_settled given piece output r s out-r out-s p q =
    let same : gave given r out-r ≡ gave given s out-s = settled p q in
    let one = told given r out-r in
    let other = told given s out-s in
    (sym one.0 ∙ ap (λ (o : Outcome). result_of o.answer o) same ∙ other.0, sym one.1 ∙ ap (λ (o : Outcome). o.output) same ∙ other.1)

-- what a scan found, and the output as it returns
pub scan_settled : (bytes output : List ℕ) (r s : Scanned) (out-r out-s : List ℕ) → Scans bytes output r out-r → Scans bytes output s out-s → (r ≡ s) × (out-r ≡ out-s)
scan_settled bytes output r s out-r out-s p q =
    let frames : r.frames ≡ s.frames = settled p.frames_is q.frames_is in
    let skipped : r.skipped ≡ s.skipped = settled p.skipped_is q.skipped_is in
    let place : r.place ≡ s.place = omega (arith, frames, skipped, p.place_is, q.place_is) in
    (λ i. record { frames = frames i; skipped = skipped i; place = place i }, settled p.output_is q.output_is)
