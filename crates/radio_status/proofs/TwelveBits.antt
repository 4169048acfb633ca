-- A level is refused where its top four bits are not all 0, and is up to 4,095 where they are: what that says of two bytes, of a word, and
-- of a record after a word. Assumes nothing.
use mathlib.Core.Path.{◌≡◌, refl, subst⁻¹}
use mathlib.Core.Bool.{Bool, true, false, cond}
use Prim.Native.Nat.{ℕ, zero, suc, ◌<◌, ◌≤◌}
use native.Mathlib.Omega.{arith}
use borrow.Author.Tests.{eqb-true, ne_eqb, not-false}
use Rattle.std.specs.Prelude.{Ok, Err}
use Rattle.wire.specs.Answers.{Answer, Accepted, first}
use Rattle.wire.specs.declared.Refusal.{Refusal}
use Rattle.wire.specs.declared.Refusal.TheVariants.{Reserved}
use Rattle.wire.specs.declared.Cause.{Cause}
use Rattle.wire.specs.declared.Cause.TheVariants.{Ain5, Ain1, Ain2, Ain3, Ain4, Ain6}
use Rattle.radio_status.specs.Control.{Leveled, LeveledWord}
use Rattle.radio_status.specs.Levels.{level, top_bits, top_set, both_or, level_tests}
use Rattle.radio_status.specs.Words.{word_at, keyed, carried, applied}
use Rattle.radio_status.specs.declared.levels.TwoLevels.{TwoLevels}
use Rattle.radio_status.specs.declared.record.Status.{Status}
use Rattle.radio_status.specs.declared.words.Word.{Word}
use Rattle.radio_status.specs.declared.words.Word.TheVariants.{Input, Forward, Reverse, Supply, Board, Unlisted}
use Rattle.radio_status.proofs.Carries.{unlisted}
use Rattle.radio_status.proofs.HeaderCases.{leveled, levels_fit_lem}

pub twelve_bits : (high low : ℕ) → high < 256 → low < 256 → top_set high ≡ false → level high low ≤ 4095
twelve_bits high low h l clear = let top : top_bits high ≡ 0 = eqb-true (top_bits high) 0 (not-false _ clear) in omega (arith, top, h, l)

-- both levels by their tests: the first that holds is the answer
abbrev first_of : Bool → Bool → Cause → Cause → Answer
first_of x y a b = cond x (Err (Reserved a)) (cond y (Err (Reserved b)) Accepted)

none_set : (x y : Bool) (a b : Cause) → first_of x y a b ≡ Accepted → (x ≡ false) × (y ≡ false)
none_set true y a b is = cc
none_set false true a b is = cc
none_set false false a b is = (refl, refl)

-- words 0, 4 and unlisted ones have no level to refuse
pub no_levels : (at c1 c3 : ℕ) → (at ≡ 1 → ⊥) → (at ≡ 2 → ⊥) → (at ≡ 3 → ⊥) → first (level_tests at c1 c3) ≡ Accepted
no_levels at c1 c3 not1 not2 not3 = rw (ne_eqb at 1 not1, ne_eqb at 2 not2, ne_eqb at 3 not3)

-- what was read of two levels tells of the answer: it accepts where both came, and a refusal is the answer's
module _ (two : TwoLevels) where
  pub both_came : (answer : Answer) (r : TwoLevels) → both_or answer two ≡ Ok r → (answer ≡ Accepted) × (r ≡ two)
  both_came (Ok _) r is = (refl, cc)
  both_came (Err refusal) r is = cc

  pub refused_by : (answer : Answer) (a : Refusal) → both_or answer two ≡ Err a → answer ≡ Err a
  refused_by (Ok _) a is = cc
  refused_by (Err refusal) a is = cc

-- a word without a level above 4,095 puts none into a record
levels-carried : (w : Word) → LeveledWord w → (s : Status) → Leveled s → Leveled (carried w s)
levels-carried (Input w) two s l = record { ain5 = l.ain5; ain1 = l.ain1; ain2 = l.ain2; ain3 = l.ain3; ain4 = l.ain4; ain6 = l.ain6 }
levels-carried (Forward w) two s l = record { ain5 = two.0; ain1 = two.1; ain2 = l.ain2; ain3 = l.ain3; ain4 = l.ain4; ain6 = l.ain6 }
levels-carried (Reverse w) two s l = record { ain5 = l.ain5; ain1 = l.ain1; ain2 = two.0; ain3 = two.1; ain4 = l.ain4; ain6 = l.ain6 }
levels-carried (Supply w) two s l = record { ain5 = l.ain5; ain1 = l.ain1; ain2 = l.ain2; ain3 = l.ain3; ain4 = two.0; ain6 = two.1 }
levels-carried (Board w) two s l = record { ain5 = l.ain5; ain1 = l.ain1; ain2 = l.ain2; ain3 = l.ain3; ain4 = l.ain4; ain6 = l.ain6 }
levels-carried (Unlisted a) two s l = l

-- a word none of whose levels is refused has none above 4,095
module _ (c1 c2 c3 c4 : ℕ) (b1 : c1 < 256) (b2 : c2 < 256) (b3 : c3 < 256) (b4 : c4 < 256) where
  both_twelve : (a b : Cause) → first_of (top_set c1) (top_set c3) a b ≡ Accepted → (level c1 c2 ≤ 4095) × (level c3 c4 ≤ 4095)
  both_twelve a b is = let clear = none_set (top_set c1) (top_set c3) a b is in (twelve_bits c1 c2 b1 b2 clear.0, twelve_bits c3 c4 b3 b4 clear.1)

  pub word_leveled : (at : ℕ) → first (level_tests at c1 c3) ≡ Accepted → LeveledWord (word_at at c1 c2 c3 c4)
  word_leveled zero is = tt
  word_leveled (suc zero) is = both_twelve Ain5 Ain1 is
  word_leveled (suc (suc zero)) is = both_twelve Ain2 Ain3 is
  word_leveled (suc (suc (suc zero))) is = both_twelve Ain4 Ain6 is
  word_leveled (suc (suc (suc (suc zero)))) is = tt
  word_leveled (suc (suc (suc (suc (suc at))))) is = subst⁻¹ LeveledWord (unlisted (suc (suc (suc (suc (suc at))))) c1 c2 c3 c4 (omega arith)) tt

  -- nor has the record after it
  pub levels-applied : (at : ℕ) → first (level_tests at c1 c3) ≡ Accepted → (c0 : ℕ) (s : Status) → Leveled s → Leveled (applied c0 (word_at at c1 c2 c3 c4) s)
  unfolding applied
  levels-applied at is c0 s l = levels-carried (word_at at c1 c2 c3 c4) (word_leveled at is) (keyed c0 s) (leveled (keyed c0 s) (levels_fit_lem s l))
