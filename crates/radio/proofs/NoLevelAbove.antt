-- T-08: no level above 4,095 comes out of a read. The word that it tells has none; a record that has none keeps having none, whatever is read into it and however often; and
-- a fresh record has none. Assumes nothing.
use mathlib.Core.Path.{◌≡◌, refl, ap, subst⁻¹}
use mathlib.Core.List.{List, [], ◌∷◌}
use Prim.Native.Nat.{ℕ}
use native.Mathlib.Omega.{arith}
use lib.IntN.{ℤ}
use lib.ListN.{length}
use Rattle.std.specs.Prelude.{Result, Ok, Err, IfOk}
use Rattle.wire.specs.Answers.{Answer, Accepted, accepts}
use Rattle.wire.specs.Numbers.{Bytes}
use Rattle.wire.specs.declared.Refusal.{Refusal}
use Rattle.wire.proofs.Cases.{by_test}
use Rattle.wire.proofs.First.{accepts-only}
use Rattle.radio_status.specs.Control.{Leveled, LeveledWord}
use Rattle.radio_status.specs.Record.{fresh_status}
use Rattle.radio_status.specs.Words.{address}
use Rattle.radio_status.specs.declared.record.Status.{Status}
use Rattle.radio_status.specs.declared.words.Word.{Word}
use Rattle.radio_status.proofs.TwelveBits.{word_leveled, levels-applied}
use Rattle.radio.specs.InTurn.{Call, status_after, OfBytes}
use Rattle.radio.specs.Read.{byte, level_answer, answer_of, taken, refused, read_of, left, Outcome}
use Rattle.radio.proofs.Cases.{good, read_taken, read-refused}

-- one read, accepted or refused: its word, and its record
module _ (frame : List ℕ) (n : ℕ) (iq mic : List ℤ) (s : Status) where
  by_outcome : (P : Outcome → Type 0) → (level_answer frame ≡ Accepted → P (taken frame n iq mic s)) → ((a : Answer) → P (refused a iq mic s)) → P (read_of frame n iq mic s)
  by_outcome P read not_read =
      let answer = answer_of frame n (length iq) (length mic) in
      by_test (accepts answer)
      (λ is.
      let accepted = accepts-only answer is in
      subst⁻¹ P (read_taken frame n iq mic s accepted) (read (good frame n (length iq) (length mic) accepted).leveled))
      (λ isn't. subst⁻¹ P (read-refused frame n iq mic s answer refl isn't) (not_read answer))

  module _ (small : Bytes frame) where
    pub word_levels : LeveledWord (read_of frame n iq mic s).reading.word
    unfolding level_answer
    word_levels =
        by_outcome (λ o. LeveledWord o.reading.word)
        (word_leveled (byte frame 4) (byte frame 5) (byte frame 6) (byte frame 7) (small 4) (small 5) (small 6) (small 7) (address (byte frame 3)))
        (λ a. tt)

    pub levels_stay : Leveled s → Leveled (read_of frame n iq mic s).reading.status
    unfolding level_answer
    levels_stay leveled =
        by_outcome (λ o. Leveled o.reading.status)
        (λ passed. levels-applied (byte frame 4) (byte frame 5) (byte frame 6) (byte frame 7) (small 4) (small 5) (small 6) (small 7) (address (byte frame 3)) passed (byte frame 3) s leveled)
        (λ a. leveled)

    -- and so of what an update gives and leaves, since its contract is the same equation
    module _ (s₁ : Status) (iq₁ mic₁ : List ℤ) where
      pub update_word_levels : (r : Result Word Refusal) → left r s₁ iq₁ mic₁ ≡ read_of frame n iq mic s → IfOk r LeveledWord
      update_word_levels (Ok w) gave = subst⁻¹ LeveledWord (ap (λ (o : Outcome). o.reading.word) gave) word_levels
      update_word_levels (Err e) gave = tt

      pub update_levels_stay : (r : Result Word Refusal) → left r s₁ iq₁ mic₁ ≡ read_of frame n iq mic s → Leveled s → Leveled s₁
      update_levels_stay (Ok w) gave leveled = subst⁻¹ Leveled (ap (λ (o : Outcome). o.reading.status) gave) (levels_stay leveled)
      update_levels_stay (Err e) gave leveled = subst⁻¹ Leveled (ap (λ (o : Outcome). o.reading.status) gave) (levels_stay leveled)

-- reads one after another
pub all_levels_stay : (calls : List Call) (s : Status) → OfBytes calls → Leveled s → Leveled (status_after calls s)
all_levels_stay [] s small leveled = leveled
all_levels_stay (c ∷ cs) s small leveled = all_levels_stay cs _ small.1 (levels_stay c.frame c.receivers c.iq c.mic s small.0 leveled)

pub fresh_leveled : Leveled fresh_status
fresh_leveled = record { ain5 = omega arith; ain1 = omega arith; ain2 = omega arith; ain3 = omega arith; ain4 = omega arith; ain6 = omega arith }

pub no_level_above_4095 : (calls : List Call) → OfBytes calls → Leveled (status_after calls fresh_status)
no_level_above_4095 calls small = all_levels_stay calls fresh_status small fresh_leveled
