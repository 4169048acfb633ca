-- `why_of`, case by case, and what an accepted call tells. Assumes nothing.
use mathlib.Core.Path.{◌≡◌, subst⁻¹}
use mathlib.Core.List.{List}
use Prim.Native.Nat.{ℕ, ◌<◌, ◌≤◌}
use borrow.Author.Tests.{lt-ltb, le-ltb, lt-leb, le-leb}
use lib.ListN.{length}
use Rattle.wire.proofs.Cases.{by_order}
use Rattle.std.specs.Prelude.{Err}
use Rattle.wire.specs.Answers.{Accepted}
use Rattle.wire.specs.declared.Refusal.TheVariants.{Length, Range}
use Rattle.why.specs.Why.{Why, reason_of, refused, accepted, why_of}

-- a call that no test refuses: the length of its input, and its place
pub record Passes (length place : ℕ) : Type 0 where
  pub short : length ≤ 65536
  pub inside : place < length

module _ (input : List ℕ) (place : ℕ) where
  pub input_too_long : 65536 < length input → why_of input place ≡ refused (Err Length)
  unfolding why_of
  input_too_long long = rw (lt-ltb 65536 (length input) long)

  pub place_too_far : length input ≤ 65536 → length input ≤ place → why_of input place ≡ refused (Err Range)
  unfolding why_of
  place_too_far short far = rw (le-ltb 65536 (length input) short, le-leb (length input) place far)

  pub explains : Passes (length input) place → why_of input place ≡ accepted (reason_of input place)
  unfolding why_of
  explains p = rw (le-ltb 65536 (length input) p.short, lt-leb (length input) place p.inside)

  -- what holds of both refusals, and of a call that no test refuses, holds of every call
  pub by_outcome : (P : Why → Type 0) → P (refused (Err Length)) → P (refused (Err Range)) → (Passes (length input) place → P (accepted (reason_of input place))) → P (why_of input place)
  by_outcome P at_length at-range at-accepted =
      by_order 65536 (length input) (λ long. subst⁻¹ P (input_too_long long) at_length)
      (λ short.
      by_order place (length input)
      (λ inside. let passes : Passes (length input) place = record { short = short; inside = inside } in subst⁻¹ P (explains passes) (at-accepted passes))
      (λ far. subst⁻¹ P (place_too_far short far) at-range))

  pub accepted_passes : (why_of input place).answer ≡ Accepted → Passes (length input) place
  accepted_passes =
      by_outcome (λ w. w.answer ≡ Accepted → Passes (length input) place) (λ e. absurd (cc)) (λ e. absurd (cc)) (λ passes e. passes)
