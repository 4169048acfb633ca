-- What is returned through the door tells the answer, the reason and what it carries. Assumes nothing.
use mathlib.Core.Path.{◌≡◌, refl}
use mathlib.Core.List.{List}
use Prim.Native.Nat.{ℕ, ◌<◌, ◌≤◌}
use native.Mathlib.Omega.{arith}
use Rattle.wire.specs.Answers.{Answer, told, place_of}
use Rattle.cells.proofs.Parts.{lower_half, upper_half}
use Rattle.why.specs.Reasons.{IsTrueReason}
use Rattle.why.specs.Why.{Why, refused, reason_of, why_of}
use Rattle.why.specs.declared.Reason.{Reason}
use Rattle.why.specs.declared.Reason.TheVariants.{NotGiven, Inside, Near, Far, Held}
use Rattle.why.proofs.Cases.{by_outcome}
use Rattle.why.proofs.TrueReason.{reason_of_is_true}
use Rattle.hpsdr_why.specs.Why.{number_of, carried_by, returned_of, why_byte_of, reason_from, TellsWhy}

-- where no reason is given, the answer alone is told
pub no_reason : (a : Answer) → told a ≡ returned_of (refused a)
no_reason a = omega arith

-- a reason's number and what it carries make it
made_of : (r : Reason) → reason_from (number_of r) (carried_by r) ≡ r
made_of NotGiven = refl
made_of (Inside start) = refl
made_of (Near byte) = refl
made_of (Far byte) = refl
made_of Held = refl

few_reasons : (r : Reason) → number_of r ≤ 4
few_reasons NotGiven = omega arith
few_reasons (Inside start) = omega arith
few_reasons (Near byte) = omega arith
few_reasons (Far byte) = omega arith
few_reasons Held = omega arith

carries_few : (s : List ℕ) (p : ℕ) (r : Reason) → p < 65536 → IsTrueReason s p r → carried_by r < 65536
carries_few s p NotGiven low is = absurd is
carries_few s p (Inside start) low is = omega (arith, is.from_start)
carries_few s p (Near byte) low is = omega (arith, is.first_wrong.before_end)
carries_few s p (Far byte) low is = omega (arith, is.first_wrong.before_end)
carries_few s p Held low is = omega arith

module _ (input : List ℕ) (place : ℕ) where
  pub carried_few : carried_by (why_of input place).reason < 65536
  carried_few =
      by_outcome input place (λ (w : Why). carried_by w.reason < 65536) (omega arith) (omega arith)
      (λ passes. carries_few input place (reason_of input place) (omega arith) (reason_of_is_true input place passes.inside))

  -- no refusal of this call carries a place
  placeless : place_of (why_of input place).answer ≡ 0
  placeless = by_outcome input place (λ (w : Why). place_of w.answer ≡ 0) refl refl (λ passes. refl)

  pub why_byte_is : why_byte_of input place ≡ returned_of (why_of input place)
  unfolding why_byte_of
  why_byte_is = refl

  pub why_byte_tells : TellsWhy (why_byte_of input place) (why_of input place)
  why_byte_tells =
      let w = why_of input place in
      let few = few_reasons w.reason in
      let lower = lower_half w.answer (number_of w.reason) (carried_by w.reason) placeless (omega arith) in
      let upper = upper_half w.answer (number_of w.reason) (carried_by w.reason) placeless (omega arith) in
      rw why_byte_is (record { lower = lower; reason_is = rw (lower.found_is, upper) (made_of w.reason) })
