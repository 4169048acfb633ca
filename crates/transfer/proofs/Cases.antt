-- What a transfer gives, case by case: the first test of the whole input that holds, and what an input passed that none refuses.
-- Assumes nothing.
use mathlib.Core.Path.{◌≡◌, refl, ◌∙◌}
use mathlib.Core.Bool.{true, false, ◌&&◌}
use mathlib.Core.List.{List}
use Prim.Native.Nat.{ℕ, ◌*◌, ◌%◌, ◌<◌, ◌≤◌}
use native.Mathlib.Nat.{div-add-mod'}
use native.Mathlib.Omega.{arith}
use borrow.Author.Tests.{eq-eqb, ne_eqb, lt-ltb, le-ltb, le-leb, lt-leb, eqb-true, ltb-false, leb-true, not-false}
use lib.Dec.{eqb, leb, ltb}
use lib.IntN.{ℤ}
use lib.ListN.{length}
use lib.Seq.{take_all}
use Rattle.std.specs.Prelude.{Err}
use Rattle.wire.specs.Answers.{Accepted, Answer, accepts, in_order}
use Rattle.wire.specs.declared.Refusal.TheVariants.{BadCount, Length, ShortBuffer}
use Rattle.wire.proofs.Cases.{both_true, neither}
use Rattle.wire.proofs.First.{accepted_none}
use Rattle.wire.proofs.Lists.{first_parts}
use Rattle.wire.specs.Lists.{tabs}
use Rattle.layout.specs.Slots.{counted, slots, values}
use Rattle.radio_status.specs.declared.record.Status.{Status}
use Rattle.transfer.specs.Steps.{Ready}
use Rattle.transfer.specs.Transfer.{count, whole, frame_at, frames_in, tests, none_read, one_by_one, answer_of, transfer_of}

-- the refusals before any frame stand in the order of the nine
pub transfer_in_order : (bytes n iq mic : ℕ) → in_order (tests bytes n iq mic) ≡ true
transfer_in_order bytes n iq mic = refl

module _ (bytes : ℕ) where
  pub left_over : (bytes % 512 ≡ 0 → ⊥) → whole bytes ≡ false
  left_over some = rw (ne_eqb (bytes % 512) 0 some)

  module _ (none_over : bytes % 512 ≡ 0) where
    pub no_frame_lem : count bytes < 1 → whole bytes ≡ false
    no_frame_lem none = rw (eq-eqb (bytes % 512) 0 none_over, lt-leb 1 (count bytes) none)

    module _ (some : 1 ≤ count bytes) where
      pub many_frames_lem : 8 < count bytes → whole bytes ≡ false
      many_frames_lem many = rw (eq-eqb (bytes % 512) 0 none_over, le-leb 1 (count bytes) some, lt-leb (count bytes) 8 many)

      pub one_to_eight : count bytes ≤ 8 → whole bytes ≡ true
      one_to_eight few = rw (eq-eqb (bytes % 512) 0 none_over, le-leb 1 (count bytes) some, le-leb (count bytes) 8 few)

  -- "1 to 8 times 512 bytes"
  pub record Whole : Type 0 where
    pub long : bytes ≡ count bytes * 512
    pub some : 1 ≤ count bytes
    pub few : count bytes ≤ 8

  pub whole_is : whole bytes ≡ true → Whole
  whole_is e =
      let most = both_true (eqb (bytes % 512) 0 && leb 1 (count bytes)) (leb (count bytes) 8) e in
      let least = both_true (eqb (bytes % 512) 0) (leb 1 (count bytes)) most.0 in
      record {
        long = omega (arith, div-add-mod' bytes 512, eqb-true (bytes % 512) 0 least.0);
        some = leb-true 1 (count bytes) least.1;
        few = leb-true (count bytes) 8 most.1;
      }

-- every byte of an input is in one of its frames
pub frames_are_all : (input : List ℕ) → whole (length input) ≡ true → tabs (count (length input)) (frame_at input) ≡ input
frames_are_all input is =
    let bytes = (whole_is (length input) is).long in
    first_parts (count (length input)) 512 input (omega (arith, bytes)) ∙ take_all (count (length input) * 512) input (omega (arith, bytes))

module _ (bytes n iq mic : ℕ) where
  pub bad_count : counted n ≡ false → answer_of bytes n iq mic ≡ Err BadCount
  unfolding answer_of
  bad_count other = rw other

  module _ (is_counted : counted n ≡ true) where
    pub wrong_length : whole bytes ≡ false → answer_of bytes n iq mic ≡ Err Length
    unfolding answer_of
    wrong_length other = rw (is_counted, other)

    module _ (is_whole : whole bytes ≡ true) where
      pub few_values : iq < count bytes * values n → answer_of bytes n iq mic ≡ Err ShortBuffer
      unfolding answer_of
      few_values short = rw (is_counted, is_whole, lt-ltb iq (count bytes * values n) short)

      module _ (iq_room : count bytes * values n ≤ iq) where
        pub few_slots : mic < count bytes * slots n → answer_of bytes n iq mic ≡ Err ShortBuffer
        unfolding answer_of
        few_slots short = rw (is_counted, is_whole, le-ltb iq (count bytes * values n) iq_room, lt-ltb mic (count bytes * slots n) short)

        pub all_good : count bytes * slots n ≤ mic → answer_of bytes n iq mic ≡ Accepted
        unfolding answer_of
        all_good mic_room = rw (is_counted, is_whole, le-ltb iq (count bytes * values n) iq_room, le-ltb mic (count bytes * slots n) mic_room)

  -- what an input passed that no test refused
  pub good : answer_of bytes n iq mic ≡ Accepted → Ready (count bytes) n bytes iq mic
  unfolding answer_of
  good e =
      let none = accepted_none (tests bytes n iq mic) refl e in
      let is_whole = whole_is bytes (not-false _ none.1.0) in
      let room = neither (ltb iq (count bytes * values n)) (ltb mic (count bytes * slots n)) none.1.1.0 in
      record {
        is_counted = not-false _ none.0;
        few = is_whole.few;
        long = is_whole.long;
        iq_room = ltb-false _ _ room.0;
        mic_room = ltb-false _ _ room.1;
      }

module _ (input : List ℕ) (n : ℕ) (iq mic : List ℤ) (s : Status) where
  pub transfer_refused : (a : Answer) → answer_of (length input) n (length iq) (length mic) ≡ a → accepts a ≡ false → transfer_of input n iq mic s ≡ none_read a iq mic s
  unfolding transfer_of
  transfer_refused a is not_accepted = rw (is, not_accepted)

  pub transfer_begun : answer_of (length input) n (length iq) (length mic) ≡ Accepted → transfer_of input n iq mic s ≡ one_by_one n (frames_in input) (none_read Accepted iq mic s)
  unfolding transfer_of
  transfer_begun is = rw is
