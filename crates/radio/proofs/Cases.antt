-- What a read gives, case by case: the first test that holds, and what an accepted frame passed. Assumes nothing.
use mathlib.Core.Path.{◌≡◌, refl, sym, ap, ◌∙◌}
use mathlib.Core.Bool.{true, false}
use mathlib.Core.List.{List}
use Prim.Native.Nat.{ℕ, ◌≤◌}
use borrow.Author.Tests.{eq-eqb, le-ltb, eqb-true, ltb-false, not-false}
use lib.Dec.{ltb}
use lib.IntN.{ℤ}
use lib.ListN.{length, length-drop}
use Rattle.std.specs.Prelude.{Ok, Err}
use Rattle.wire.specs.Answers.{Answer, Accepted, accepts, in_order, reserving}
use Rattle.wire.specs.Sync.{sync_at}
use Rattle.wire.specs.declared.Refusal.{Refusal}
use Rattle.wire.specs.declared.Refusal.TheVariants.{BadCount}
use Rattle.wire.proofs.Cases.{by_test, neither}
use Rattle.wire.proofs.First.{accepted_none, none_accepted, accepts-only, first-before, first-after}
use Rattle.layout.specs.Slots.{counted, slots, values}
use Rattle.layout.specs.Table.{lookup}
use Rattle.layout.specs.declared.row.Row.{Row}
use Rattle.layout.proofs.Lookup.{found, not_found}
use Rattle.radio_status.specs.declared.record.Status.{Status}
use Rattle.radio_status.specs.Levels.{in_pairs}
use Rattle.radio_status.specs.declared.levels.TwoLevels.{TwoLevels}
use Rattle.radio_status.proofs.TwelveBits.{both_came, refused_by}
use Rattle.radio_samples.specs.Samples.{samples_read}
use Rattle.radio_samples.proofs.Roomy.{has_room, all_read}
use Rattle.radio.specs.Read.{byte, payload, word, word_in, above, level_answer, levels_in, frame_tests, tests, frame_answer, padded, answer_of, Reading, taken, refused, outcome, read_of}

-- a refusal is no acceptance
pub not_accepted : (e : Refusal) → accepts (Err e) ≡ false
not_accepted e = by_test (accepts (Err e)) (λ yes. let same = accepts-only (Err e) yes in cc) (λ no. no)

-- the refusals of `read` stand in the order of the nine
pub read_in_order : (frame : List ℕ) (n iq mic : ℕ) → in_order (tests frame n iq mic) ≡ true
read_in_order frame n iq mic = refl

module _ (frame : List ℕ) (n iq mic : ℕ) where
  pub all_good : length frame ≡ 512 → values n ≤ iq → slots n ≤ mic → sync_at frame 0 ≡ true → padded n frame ≡ true → frame_answer frame n iq mic ≡ Accepted
  unfolding frame_answer
  all_good long iq_room mic_room synced clean = rw (eq-eqb _ _ long, le-ltb _ _ iq_room, le-ltb _ _ mic_room, synced, clean)

  pub frame_long : frame_answer frame n iq mic ≡ Accepted → length frame ≡ 512
  unfolding frame_answer
  frame_long passed = eqb-true _ _ (not-false _ (accepted_none (frame_tests frame n iq mic) refl passed).0)

  -- what an accepted frame passed
  pub record Good : Type 0 where
    pub is_counted : counted n ≡ true
    pub long : length frame ≡ 512
    pub iq_room : values n ≤ iq
    pub mic_room : slots n ≤ mic
    pub synced : sync_at frame 0 ≡ true
    pub clean : padded n frame ≡ true
    pub leveled : level_answer frame ≡ Accepted

  pub good : answer_of frame n iq mic ≡ Accepted → Good
  unfolding answer_of level_answer
  good e =
      let none = accepted_none (tests frame n iq mic) refl e in
      let room = neither (ltb iq (values n)) (ltb mic (slots n)) none.1.1.0 in
      record {
        is_counted = not-false _ none.0;
        long = eqb-true _ _ (not-false _ none.1.0);
        iq_room = ltb-false _ _ room.0;
        mic_room = ltb-false _ _ room.1;
        synced = not-false _ none.1.1.1.0;
        clean = not-false _ none.1.1.1.1.0;
        leveled = none_accepted (reserving (above frame)) none.1.1.1.1.1;
      }

  pub bad_count : counted n ≡ false → answer_of frame n iq mic ≡ Err BadCount
  unfolding answer_of
  bad_count other = rw other

  module _ (is : counted n ≡ true) where
    -- refused by a test of the frame before its levels, or by those of its levels alone
    pub frame_refused : (e : Refusal) → frame_answer frame n iq mic ≡ Err e → answer_of frame n iq mic ≡ Err e
    unfolding answer_of frame_answer
    frame_refused e refusal = rw is (first-before (frame_tests frame n iq mic) (reserving (above frame)) (ap accepts refusal ∙ not_accepted e)) ∙ refusal

    pub levels_left : frame_answer frame n iq mic ≡ Accepted → answer_of frame n iq mic ≡ level_answer frame
    unfolding answer_of frame_answer level_answer
    levels_left passed = rw is (first-after (frame_tests frame n iq mic) (reserving (above frame)) (accepted_none (frame_tests frame n iq mic) refl passed))

-- the levels as they were read
module _ (frame : List ℕ) where
  abbrev pairs : TwoLevels
  pairs = in_pairs (byte frame 4) (byte frame 5) (byte frame 6) (byte frame 7)

  pub levels_came : (two : TwoLevels) → levels_in frame ≡ Ok two → (level_answer frame ≡ Accepted) × (word_in frame two ≡ word frame)
  unfolding level_answer
  levels_came two is = let came = both_came pairs (level_answer frame) two is in (came.0, ap (word_in frame) came.1)

  pub levels_refused : (e : Refusal) → levels_in frame ≡ Err e → level_answer frame ≡ Err e
  unfolding level_answer
  levels_refused e is = refused_by pairs (level_answer frame) e is

module _ (frame : List ℕ) (n : ℕ) (iq mic : List ℤ) (s : Status) where
  pub read-refused : (a : Answer) → answer_of frame n (length iq) (length mic) ≡ a → accepts a ≡ false → read_of frame n iq mic s ≡ refused a iq mic s
  unfolding read_of
  read-refused a is other = rw (is, other)

  -- a read is refused for its count, by a test of its frame, or for a level
  gave_refusal : (e : Refusal) → answer_of frame n (length iq) (length mic) ≡ Err e → refused (Err e) iq mic s ≡ read_of frame n iq mic s
  gave_refusal e is = sym (read-refused (Err e) is (not_accepted e))

  pub uncounted : (e : Refusal) → lookup n ≡ Err e → refused (Err e) iq mic s ≡ read_of frame n iq mic s
  uncounted e missing =
      let none = not_found n e missing in
      gave_refusal e (bad_count frame n (length iq) (length mic) none.0 ∙ sym (ap Err none.1))

  module _ (r : Row) (e : Refusal) (row : lookup n ≡ Ok r) where
    pub untested : frame_answer frame r.receivers (length iq) (length mic) ≡ Err e → refused (Err e) iq mic s ≡ read_of frame n iq mic s
    untested is =
        let of_count = found n r row in
        gave_refusal e (frame_refused frame n (length iq) (length mic) of_count.0 e (rw of_count.1 at is))

    pub unleveled : frame_answer frame r.receivers (length iq) (length mic) ≡ Accepted → levels_in frame ≡ Err e → refused (Err e) iq mic s ≡ read_of frame n iq mic s
    unleveled passed above =
        let of_count = found n r row in
        gave_refusal e (levels_left frame n (length iq) (length mic) of_count.0 (rw of_count.1 at passed) ∙ levels_refused frame e above)

  pub read_taken : answer_of frame n (length iq) (length mic) ≡ Accepted → read_of frame n iq mic s ≡ taken frame n iq mic s
  unfolding read_of
  read_taken is = rw is

  -- an accepted read gives what its parts were each shown to be
  pub read_gives : answer_of frame n (length iq) (length mic) ≡ Accepted → (r : Reading) (iq' mic' : List ℤ) → r ≡ (taken frame n iq mic s).reading → iq' ≡ (taken frame n iq mic s).iq → mic' ≡ (taken frame n iq mic s).mic → outcome r iq' mic' ≡ read_of frame n iq mic s
  read_gives is r iq' mic' reading-is iq_is mic_is = (λ i. outcome (reading-is i) (iq_is i) (mic_is i)) ∙ sym (read_taken is)

  -- an accepted frame has all its samples, and there is room for them
  pub samples-taken : answer_of frame n (length iq) (length mic) ≡ Accepted → samples_read n (payload frame) iq mic ≡ ((taken frame n iq mic s).iq, (taken frame n iq mic s).mic)
  samples-taken is =
      let passed = good frame n (length iq) (length mic) is in
      let whole : length (payload frame) ≡ 504 = rw (length-drop 8 frame, passed.long) in
      all_read n (payload frame) iq mic (has_room n (length iq) (length mic) (length (payload frame)) 504 passed.is_counted passed.iq_room passed.mic_room whole)

  pub read_answer : (read_of frame n iq mic s).reading.answer ≡ answer_of frame n (length iq) (length mic)
  read_answer =
      let answer = answer_of frame n (length iq) (length mic) in
      by_test (accepts answer)
      (λ is. let accepted = accepts-only answer is in ap (λ o. o.reading.answer) (read_taken accepted) ∙ sym accepted)
      (λ refusal. ap (λ o. o.reading.answer) (read-refused answer refl refusal))

  pub read_accepted : (read_of frame n iq mic s).reading.answer ≡ Accepted → answer_of frame n (length iq) (length mic) ≡ Accepted
  read_accepted is = sym read_answer ∙ is
