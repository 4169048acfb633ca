-- The byte that a refused read names is wrong, and every byte before it, among those that are tested, is right; the level that it names is
-- above 4,095, and none before it is; and no other answer names one. Assumes nothing.
use mathlib.Core.Path.{◌≡◌, refl, sym, ap, subst⁻¹, ◌∙◌}
use mathlib.Core.Bool.{not}
use mathlib.Core.List.{List}
use Prim.Native.Nat.{ℕ}
use native.Mathlib.Omega.{arith}
use borrow.Author.Tests.{eqb-true, not-false, not-true}
use lib.IntN.{ℤ}
use lib.ListN.{length, take, drop}
use Rattle.std.specs.Prelude.{Result}
use Rattle.wire.specs.Answers.{Answer, Test, ◌gives◌, first, number_of, place_of, reserving, CauseNamed}
use Rattle.wire.specs.Places.{FirstNot}
use Rattle.wire.specs.declared.Refusal.{Refusal}
use Rattle.wire.proofs.Causes.{cause_named}
use Rattle.wire.proofs.First.{passing, stopping, no_place}
use Rattle.wire.proofs.Named.{sync_told, named_behind}
use Rattle.radio_status.specs.declared.record.Status.{Status}
use Rattle.radio_status.specs.declared.words.Word.{Word}
use Rattle.radio.specs.Read.{tests, answer_of, read_of, Outcome, left, padding_start, padded, bad_padding, above}
use Rattle.radio.specs.WhichByte.{TellsWhich}
use Rattle.radio.proofs.Cases.{read_answer}

module _ (frame : List ℕ) (n iq mic : ℕ) where
  abbrev all : List Test
  all = tests frame n iq mic

  padding_told : number_of (first all) ≡ 7 → FirstNot 0 frame (padding_start n) 512 (place_of (first all))
  padding_told is =
      let before = passing 7 (take 4 all) (drop 4 all) refl is in
      let long : length frame ≡ 512 = eqb-true _ _ (not-false _ before.0.1.0) in
      let here = stopping 7 (not (padded n frame) gives bad_padding n frame) (reserving (above frame)) refl (λ e. omega arith) (sym (ap number_of before.1) ∙ is) in
      let named = rw long at (named_behind frame 0 (padding_start n) (omega (arith, long)) (not-true _ here.0)) in
      subst⁻¹ (λ (a : Answer). FirstNot 0 frame (padding_start n) 512 (place_of a)) (before.1 ∙ here.1) named

  level_told : number_of (first all) ≡ 8 → CauseNamed (above frame) (first all)
  level_told is =
      let before = passing 8 (take 5 all) (reserving (above frame)) refl is in
      subst⁻¹ (CauseNamed (above frame)) before.1 (cause_named (above frame) (sym (ap number_of before.1) ∙ is))

  tells : TellsWhich frame n (answer_of frame n iq mic)
  unfolding answer_of
  tells =
      record {
        sync = sync_told frame (take 3 all) (drop 4 all) refl refl (λ none. eqb-true _ _ (not-false _ none.1.0));
        padding = padding_told;
        level = level_told;
        none = no_place (first all);
      }

pub which_byte : (frame : List ℕ) (n : ℕ) (iq mic : List ℤ) (s : Status) → TellsWhich frame n (read_of frame n iq mic s).reading.answer
which_byte frame n iq mic s = subst⁻¹ (TellsWhich frame n) (read_answer frame n iq mic s) (tells frame n (length iq) (length mic))

-- and so of what an update gives, since its contract is the same equation
pub update_which_byte : (frame : List ℕ) (n : ℕ) (iq mic : List ℤ) (s : Status) (r : Result Word Refusal) (s₁ : Status) (iq₁ mic₁ : List ℤ) → left r s₁ iq₁ mic₁ ≡ read_of frame n iq mic s → TellsWhich frame n (left r s₁ iq₁ mic₁).reading.answer
update_which_byte frame n iq mic s r s₁ iq₁ mic₁ gave = subst⁻¹ (TellsWhich frame n) (ap (λ (o : Outcome). o.reading.answer) gave) (which_byte frame n iq mic s)
