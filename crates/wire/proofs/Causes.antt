-- The cause that is named is set, and none before it is. Assumes nothing.
use mathlib.Core.Path.{◌≡◌, refl, sym, ap, ◌∙◌}
use mathlib.Core.Bool.{Bool, true, false, not, true≢false}
use mathlib.Core.List.{List, [], ◌∷◌, map}
use Prim.Native.Nat.{ℕ, ◌+◌, ◌-◌, ◌<◌}
use native.Mathlib.Omega.{arith}
use borrow.Author.Tests.{eqb-true, not-false, not-true}
use lib.Dec.{eqb}
use lib.ListN.{get_or}
use Rattle.std.specs.Prelude.{Err}
use Rattle.wire.specs.Answers.{Accepted, Test, ◌gives◌, first, number_of, reserving, CauseNamed}
use Rattle.wire.specs.Causes.{causes, cause_number}
use Rattle.wire.specs.Every.{every}
use Rattle.wire.specs.Places.{first_wrong}
use Rattle.wire.specs.declared.Refusal.TheVariants.{Reserved}
use Rattle.wire.specs.declared.Cause.{Cause}
use Rattle.wire.specs.declared.Cause.TheVariants.{Source10, Relay, Word9C4Bit7, Word10C1Bit7, Ain5, Ain1, Ain2, Ain3, Ain4, Ain6}
use Rattle.wire.proofs.Cases.{by_test}
use Rattle.wire.proofs.Everywhere.{below}
use Rattle.wire.proofs.FirstWrong.{first_inside, wrong_there, right_before}

-- a cause's number is its place among them, from 1
abbrev cause_at : ℕ → Cause
cause_at k = get_or causes k Source10

number_at : (k : ℕ) → k < 10 → cause_number (cause_at k) ≡ k + 1
number_at k few = eqb-true _ _ (below 10 (λ i. eqb (cause_number (cause_at i)) (i + 1)) refl k few)

at_number : (cause : Cause) → (cause_at (cause_number cause - 1) ≡ cause) × (0 < cause_number cause)
at_number Source10 = (refl, omega arith)
at_number Relay = (refl, omega arith)
at_number Word9C4Bit7 = (refl, omega arith)
at_number Word10C1Bit7 = (refl, omega arith)
at_number Ain5 = (refl, omega arith)
at_number Ain1 = (refl, omega arith)
at_number Ain2 = (refl, omega arith)
at_number Ain3 = (refl, omega arith)
at_number Ain4 = (refl, omega arith)
at_number Ain6 = (refl, omega arith)

module _ (is_set : Cause → Bool) where
  abbrev refusing : Cause → Test
  refusing cause = is_set cause gives Reserved cause

  abbrev off : Cause → Bool
  off cause = not (is_set cause)

  -- the first of any causes that is set is the answer
  all-off : (some : List Cause) → every off some ≡ true → first (map refusing some) ≡ Accepted
  all-off [] e = refl
  all-off (cause ∷ rest) e =
      by_test (is_set cause) (λ set. absurd (true≢false (sym e ∙ rw set))) (λ unset. rw unset (all-off rest (rw unset at e)))

  first-set : (some : List Cause) → every off some ≡ false → first (map refusing some) ≡ Err (Reserved (get_or some (first_wrong off some) Source10))
  first-set [] e = absurd (true≢false e)
  first-set (cause ∷ rest) e = by_test (is_set cause) (λ set. rw set) (λ unset. rw unset (first-set rest (rw unset at e)))

  named : every off causes ≡ false → CauseNamed is_set (first (reserving is_set))
  named some =
      let k = first_wrong off causes in
      let inside : k < 10 = first_inside off causes some in
      record {
        cause = cause_at k;
        is = first-set causes some;
        set = not-false _ (wrong_there off causes Source10 some);
        none_before = λ other lower.
            let numbered = at_number other in
            let before : cause_number other - 1 < k = omega (arith, lower, number_at k inside, numbered.1) in
            sym (ap is_set numbered.0) ∙ not-true _ (right_before off causes Source10 (cause_number other - 1) before);
      }

  pub cause_named : number_of (first (reserving is_set)) ≡ 8 → CauseNamed is_set (first (reserving is_set))
  cause_named is = by_test (every off causes) (λ none. let zero = sym (ap number_of (all-off causes none)) ∙ is in absurd (omega (arith, zero))) named
