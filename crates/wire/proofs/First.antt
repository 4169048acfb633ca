-- The first test that holds: its two cases, and what an accepted call knows of every test. Assumes nothing.
use mathlib.Core.Path.{◌≡◌, refl, sym, ap, ◌∙◌}
use mathlib.Core.Bool.{Bool, true, false, ◌||◌, true≢false}
use mathlib.Core.List.{List, [], ◌∷◌, ◌++◌, map, append-nil}
use Prim.Native.Nat.{ℕ, ◌≤◌}
use native.Mathlib.Nat.{le_trans}
use native.Mathlib.Omega.{arith}
use borrow.Author.Tests.{leb-true, eqb-true, eqb-false}
use lib.Dec.{leb, eqb}
use Rattle.wire.proofs.Cases.{by_test, both_true, neither}
use Rattle.std.specs.Prelude.{Ok, Err}
use Rattle.wire.specs.Answers.{Answer, Accepted, Test, ◌gives◌, first, number_of, place_of, nine, from, in_order, accepts}
use Rattle.wire.specs.declared.Cause.{Cause}
use Rattle.wire.specs.declared.Refusal.TheVariants.{BadState, BadCount, Length, ShortBuffer, StreamFull, NoSync, Padding, Reserved, Range}

module _ (t : Test) (ts : List Test) where
  pub first-here : t.holds ≡ true → first (t ∷ ts) ≡ t.answer
  first-here e = rw e

  pub first-later : t.holds ≡ false → first (t ∷ ts) ≡ first ts
  first-later e = rw e

-- none of the tests holds
abbrev pub None : List Test → Type 0
None [] = Unit {0}
None (t ∷ ts) = (t.holds ≡ false) × None ts

pub none_accepted : (ts : List Test) → None ts → first ts ≡ Accepted
none_accepted [] n = refl
none_accepted (t ∷ ts) n = first-later t ts n.0 ∙ none_accepted ts n.1

not_accepted : (k : ℕ) (a : Answer) → 1 ≤ k → leb k (number_of a) ≡ true → a ≡ Accepted → ⊥
not_accepted k a some h e = let low : number_of a ≡ 0 = ap number_of e in let above = leb-true k (number_of a) h in omega arith

none_from : (k : ℕ) (ts : List Test) → 1 ≤ k → from k ts ≡ true → first ts ≡ Accepted → None ts
none_from k [] some order e = tt
none_from k (t ∷ ts) some order e =
    let each = both_true (leb k (number_of t.answer)) (from (number_of t.answer) ts) order in
    by_test t.holds
    (λ held. absurd (not_accepted k t.answer some each.0 (sym (first-here t ts held) ∙ e)))
    (λ passed. (passed, none_from (number_of t.answer) ts (le_trans some (leb-true k (number_of t.answer) each.0)) each.1 (sym (first-later t ts passed) ∙ e)))

-- a call that is accepted passed every test
pub accepted_none : (ts : List Test) → in_order ts ≡ true → first ts ≡ Accepted → None ts
accepted_none ts order e = none_from 1 ts (omega arith) order e

-- of tests in two parts: one of the first holds, or none does
pub first-before : (before after : List Test) → accepts (first before) ≡ false → first (before ++ after) ≡ first before
first-before [] after refused = absurd (true≢false refused)
first-before (t ∷ ts) after refused = by_test t.holds (λ held. rw held) (λ passed. rw passed (first-before ts after (rw passed at refused)))

pub first-after : (before after : List Test) → None before → first (before ++ after) ≡ first after
first-after [] after none = refl
first-after (t ∷ ts) after none = first-later t (ts ++ after) none.0 ∙ first-after ts after none.1

-- one of the tests gives the refusal of a number
abbrev pub mentions : ℕ → List Test → Bool
mentions k [] = false
mentions k (t ∷ ts) = eqb (number_of t.answer) k || mentions k ts

-- Of an answer with a number: no test held of those before it that do not give that number,
pub passing : (k : ℕ) (before after : List Test) → mentions k before ≡ false → number_of (first (before ++ after)) ≡ k → None before × (first (before ++ after) ≡ first after)
passing k [] after not-here is = (tt, refl)
passing k (t ∷ ts) after not-here is =
    let each = neither (eqb (number_of t.answer) k) (mentions k ts) not-here in
    by_test t.holds
    (λ held. absurd (eqb-false _ k each.0 (sym (ap number_of (first-here t (ts ++ after) held)) ∙ is)))
    (λ passed.
    let later = first-later t (ts ++ after) passed in
    let rest = passing k ts after each.1 (sym (ap number_of later) ∙ is) in
    ((passed, rest.0), later ∙ rest.1))

-- it is not the answer of tests none of which gives that number,
pub never : (k : ℕ) (ts : List Test) → mentions k ts ≡ false → (0 ≡ k → ⊥) → number_of (first ts) ≡ k → ⊥
never k ts not-here some is =
    let all = ap first (append-nil ts) in
    some (sym (ap number_of (passing k ts [] not-here (ap number_of all ∙ is)).1) ∙ ap number_of all ∙ is)

-- and a test before such ones holds, so that the answer is its own
pub stopping : (k : ℕ) (t : Test) (after : List Test) → mentions k after ≡ false → (0 ≡ k → ⊥) → number_of (first (t ∷ after)) ≡ k → (t.holds ≡ true) × (first (t ∷ after) ≡ t.answer)
stopping k t after not-later some is =
    by_test t.holds
    (λ held. (held, first-here t after held))
    (λ passed. absurd (never k after not-later some (sym (ap number_of (first-later t after passed)) ∙ is)))

-- the table of nine has its numbers in order
pub nine_in_order : (byte padding : ℕ) (cause : Cause) → in_order (map (λ refusal. true gives refusal) (nine byte padding cause)) ≡ true
nine_in_order byte padding cause = refl

pub few_numbers : (a : Answer) → number_of a ≤ 9
few_numbers (Ok _) = omega arith
few_numbers (Err BadState) = omega arith
few_numbers (Err BadCount) = omega arith
few_numbers (Err Length) = omega arith
few_numbers (Err ShortBuffer) = omega arith
few_numbers (Err StreamFull) = omega arith
few_numbers (Err (NoSync byte)) = omega arith
few_numbers (Err (Padding byte)) = omega arith
few_numbers (Err (Reserved cause)) = omega arith
few_numbers (Err Range) = omega arith

-- T-02: a place is given where the refusal is one of the three, and nowhere else
pub no_place : (a : Answer) → (number_of a ≡ 6 → ⊥) → (number_of a ≡ 7 → ⊥) → (number_of a ≡ 8 → ⊥) → place_of a ≡ 0
no_place (Ok _) not6 not7 not8 = refl
no_place (Err BadState) not6 not7 not8 = refl
no_place (Err BadCount) not6 not7 not8 = refl
no_place (Err Length) not6 not7 not8 = refl
no_place (Err ShortBuffer) not6 not7 not8 = refl
no_place (Err StreamFull) not6 not7 not8 = refl
no_place (Err (NoSync byte)) not6 not7 not8 = absurd (not6 refl)
no_place (Err (Padding byte)) not6 not7 not8 = absurd (not7 refl)
no_place (Err (Reserved cause)) not6 not7 not8 = absurd (not8 refl)
no_place (Err Range) not6 not7 not8 = refl

-- 0 is the number of no refusal
pub only_accepted : (a : Answer) → number_of a ≡ 0 → a ≡ Accepted
only_accepted (Ok _) e = refl
only_accepted (Err BadState) e = absurd (omega arith)
only_accepted (Err BadCount) e = absurd (omega arith)
only_accepted (Err Length) e = absurd (omega arith)
only_accepted (Err ShortBuffer) e = absurd (omega arith)
only_accepted (Err StreamFull) e = absurd (omega arith)
only_accepted (Err (NoSync byte)) e = absurd (omega arith)
only_accepted (Err (Padding byte)) e = absurd (omega arith)
only_accepted (Err (Reserved cause)) e = absurd (omega arith)
only_accepted (Err Range) e = absurd (omega arith)

pub accepts-only : (a : Answer) → accepts a ≡ true → a ≡ Accepted
accepts-only a e = only_accepted a (eqb-true _ 0 e)
