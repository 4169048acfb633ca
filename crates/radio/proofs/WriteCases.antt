-- What a write gives, case by case: the first test that holds, and what an accepted one passed. Assumes nothing.
use mathlib.Core.Path.{◌≡◌, refl, sym, ap, ◌∙◌}
use mathlib.Core.Bool.{true, false, ◌&&◌}
use mathlib.Core.List.{List}
use Prim.Native.Nat.{ℕ, ◌≤◌}
use borrow.Author.Tests.{eq-eqb, le-ltb, le-leb, eqb-true, ltb-false, leb-true, not-false}
use lib.Dec.{leb, ltb}
use lib.IntN.{ℤ}
use lib.ListN.{length, take}
use Rattle.std.specs.Prelude.{Ok, Err}
use Rattle.wire.specs.Answers.{Answer, Accepted, accepts, in_order}
use Rattle.wire.specs.Every.{all_fit}
use Rattle.wire.specs.declared.Refusal.{Refusal}
use Rattle.wire.specs.declared.Refusal.TheVariants.{BadCount}
use Rattle.wire.proofs.Cases.{both_true, neither}
use Rattle.wire.proofs.First.{accepted_none}
use Rattle.layout.specs.Slots.{counted, slots, values}
use Rattle.layout.specs.Table.{lookup}
use Rattle.layout.specs.declared.row.Row.{Row}
use Rattle.layout.proofs.Lookup.{found, not_found}
use Rattle.radio_status.specs.Control.{status_fits}
use Rattle.radio_status.specs.declared.record.Status.{Status}
use Rattle.radio.proofs.Cases.{not_accepted}
use Rattle.radio.specs.Write.{tests, later_answer, answer_of, in_range, frame_of, gave, write_of}

module _ (s : Status) (w n : ℕ) (iq : List ℤ) where
  pub unwritable : all_fit (take (values n) iq) ≡ true → status_fits s ≡ false → in_range s w n iq ≡ false
  unfolding in_range
  unwritable fit out = rw fit (ap (λ b. b && leb w 4) out)

  pub range_good : all_fit (take (values n) iq) ≡ true → status_fits s ≡ true → w ≤ 4 → in_range s w n iq ≡ true
  unfolding in_range
  range_good fit writable listed = rw (fit, writable, le-leb w 4 listed)

module _ (s : Status) (w n : ℕ) (iq : List ℤ) (mic frame : ℕ) where
  -- the refusals of `write` stand in the order of the nine
  pub write_in_order : in_order (tests s w n iq mic frame) ≡ true
  write_in_order = refl

  pub all_good : frame ≡ 512 → values n ≤ length iq → slots n ≤ mic → in_range s w n iq ≡ true → later_answer s w n iq mic frame ≡ Accepted
  unfolding later_answer
  all_good long iq_room mic_room fit = rw (eq-eqb _ _ long, le-ltb _ _ iq_room, le-ltb _ _ mic_room, fit)

  -- what an accepted write passed
  pub record Good : Type 0 where
    pub is_counted : counted n ≡ true
    pub long : frame ≡ 512
    pub iq_room : values n ≤ length iq
    pub mic_room : slots n ≤ mic
    pub fit : all_fit (take (values n) iq) ≡ true
    pub status_fits_lem : status_fits s ≡ true
    pub listed : w ≤ 4

  pub good : answer_of s w n iq mic frame ≡ Accepted → Good
  unfolding answer_of in_range
  good e =
      let none = accepted_none (tests s w n iq mic frame) refl e in
      let room = neither (ltb (length iq) (values n)) (ltb mic (slots n)) none.1.1.0 in
      let word = both_true (all_fit (take (values n) iq) && status_fits s) (leb w 4) (not-false _ none.1.1.1.0) in
      let values-fit = both_true (all_fit (take (values n) iq)) (status_fits s) word.0 in
      record {
        is_counted = not-false _ none.0;
        long = eqb-true _ _ (not-false _ none.1.0);
        iq_room = ltb-false _ _ room.0;
        mic_room = ltb-false _ _ room.1;
        fit = values-fit.0;
        status_fits_lem = values-fit.1;
        listed = leb-true w 4 word.1;
      }

  pub bad_count : counted n ≡ false → answer_of s w n iq mic frame ≡ Err BadCount
  unfolding answer_of
  bad_count other = rw other

  pub answer-counted : counted n ≡ true → answer_of s w n iq mic frame ≡ later_answer s w n iq mic frame
  unfolding answer_of later_answer
  answer-counted is = rw is

module _ (s : Status) (w n : ℕ) (iq mic : List ℤ) (frame : List ℕ) where
  pub write_refused : (a : Answer) → answer_of s w n iq (length mic) (length frame) ≡ a → accepts a ≡ false → write_of s w n iq mic frame ≡ gave a frame
  unfolding write_of
  write_refused a is other = rw (is, other)

  -- a write is refused for its count, or by a later test
  gave_refusal : (e : Refusal) → answer_of s w n iq (length mic) (length frame) ≡ Err e → gave (Err e) frame ≡ write_of s w n iq mic frame
  gave_refusal e is = sym (write_refused (Err e) is (not_accepted e))

  pub uncounted : (e : Refusal) → lookup n ≡ Err e → gave (Err e) frame ≡ write_of s w n iq mic frame
  uncounted e missing =
      let none = not_found n e missing in
      gave_refusal e (bad_count s w n iq (length mic) (length frame) none.0 ∙ sym (ap Err none.1))

  module _ (r : Row) (row : lookup n ≡ Ok r) where
    pub untested : (e : Refusal) → later_answer s w r.receivers iq (length mic) (length frame) ≡ Err e → gave (Err e) frame ≡ write_of s w n iq mic frame
    untested e is =
        let of_count = found n r row in
        gave_refusal e (answer-counted s w n iq (length mic) (length frame) of_count.0 ∙ (rw of_count.1 at is))

    pub passed : later_answer s w r.receivers iq (length mic) (length frame) ≡ Accepted → answer_of s w n iq (length mic) (length frame) ≡ Accepted
    passed is =
        let of_count = found n r row in
        answer-counted s w n iq (length mic) (length frame) of_count.0 ∙ (rw of_count.1 at is)

  pub write_taken : answer_of s w n iq (length mic) (length frame) ≡ Accepted → write_of s w n iq mic frame ≡ gave Accepted (frame_of s w n iq mic)
  unfolding write_of
  write_taken is = rw is

  pub write_gives : answer_of s w n iq (length mic) (length frame) ≡ Accepted → (frame' : List ℕ) → frame' ≡ frame_of s w n iq mic → gave Accepted frame' ≡ write_of s w n iq mic frame
  write_gives is frame' laid = ap (gave Accepted) laid ∙ sym (write_taken is)

  pub write_accepted : (write_of s w n iq mic frame).answer ≡ Accepted → answer_of s w n iq (length mic) (length frame) ≡ Accepted
  unfolding write_of
  write_accepted is = is
