-- The tests of the whole input as `row_of_whole` makes them, with the row that was looked up: what its products are at most, and what each
-- test tells. Assumes nothing.
use mathlib.Core.Path.{◌≡◌, refl, sym, ap, ◌∙◌}
use mathlib.Core.Bool.{true, false}
use mathlib.Core.List.{List}
use Prim.Native.Nat.{ℕ, ◌*◌, ◌%◌, ◌<◌, ◌≤◌}
use native.Mathlib.Omega.{arith}
use lib.IntN.{ℤ}
use lib.ListN.{length}
use Rattle.std.specs.Prelude.{Result, Ok, Err}
use Rattle.wire.specs.Answers.{Answer, Accepted}
use Rattle.wire.specs.declared.Refusal.{Refusal}
use Rattle.wire.specs.declared.Refusal.TheVariants.{BadCount, Length, ShortBuffer}
use Rattle.layout.specs.Slots.{counted, values}
use Rattle.layout.specs.Table.{row_of, lookup}
use Rattle.layout.specs.declared.row.Row.{Row}
use Rattle.layout.proofs.Lookup as looked
use Rattle.layout.proofs.Places as places
use Rattle.radio_status.specs.declared.record.Status.{Status}
use Rattle.radio.proofs.Cases.{not_accepted}
use Rattle.transfer.specs.Steps.{Ready, row_after}
use Rattle.transfer.specs.Transfer.{count, whole, frames_in, answer_of, none_read, one_by_one, transfer_of}
use Rattle.transfer.proofs.Cases as cases
use Rattle.transfer.proofs.Room.{few_in_all}

module _ (row : Row) (frames : ℕ) (few : frames ≤ 8) where
  pub all_values : frames * values row.receivers ≤ 4032
  all_values = few_in_all frames (values row.receivers) few (places.few_values row.receivers)

  pub all_slots : frames * row.slots ≤ 4032
  all_slots =
      few_in_all frames row.slots few (omega (arith, row.rule.slots_is, places.few_slots row.receivers))

-- a row is given where no test before it refuses, and it is that of n receivers; else the refusal is given
row_given : (a : Answer) (n : ℕ) (row : Row) → Ok row ≡ row_after a n → (a ≡ Accepted) × (row ≡ row_of n)
row_given (Ok _) n row e = (refl, (cc))
row_given (Err refusal) n row e = cc

row_refused : (a : Answer) (n : ℕ) (refusal : Refusal) → Err refusal ≡ row_after a n → a ≡ Err refusal
row_refused (Ok _) n refusal e = cc
row_refused (Err other) n refusal e = cc

module _ (bytes n iq mic : ℕ) where
  abbrev given : Result Row Refusal
  given = row_after (answer_of bytes n iq mic) n

  answered : (a : Answer) → answer_of bytes n iq mic ≡ a → row_after a n ≡ given
  answered a is = ap (λ b. row_after b n) (sym is)

  pub no_row : (e : Refusal) → lookup n ≡ Err e → Err e ≡ given
  no_row e is =
      let missing = looked.not_found n e is in
      ap Err missing.1 ∙ answered (Err BadCount) (cases.bad_count bytes n iq mic missing.0)

  module _ (row : Row) (is : lookup n ≡ Ok row) where
    is_counted : counted n ≡ true
    is_counted = (looked.found n row is).0

    row_is : row ≡ row_of n
    row_is = (looked.found n row is).1

    wrong_length : whole bytes ≡ false → Err Length ≡ given
    wrong_length other = answered (Err Length) (cases.wrong_length bytes n iq mic is_counted other)

    pub left_over : (bytes % 512 ≡ 0 → ⊥) → Err Length ≡ given
    left_over some = wrong_length (cases.left_over bytes some)

    module _ (none_over : bytes % 512 ≡ 0) where
      pub no_frame : count bytes < 1 → Err Length ≡ given
      no_frame none = wrong_length (cases.no_frame_lem bytes none_over none)

      pub many_frames : 8 < count bytes → Err Length ≡ given
      many_frames many = wrong_length (cases.many_frames_lem bytes none_over (omega arith) many)

      module _ (some : 1 ≤ count bytes) (few : count bytes ≤ 8) where
        is_whole : whole bytes ≡ true
        is_whole = cases.one_to_eight bytes none_over some few

        pub iq_short : iq < count bytes * values row.receivers → Err ShortBuffer ≡ given
        iq_short short = answered (Err ShortBuffer) (cases.few_values bytes n iq mic is_counted is_whole (rw row_is at short))

        module _ (iq_room : count bytes * values row.receivers ≤ iq) where
          pub mic_short : mic < count bytes * row.slots → Err ShortBuffer ≡ given
          mic_short short =
              answered (Err ShortBuffer) (cases.few_slots bytes n iq mic is_counted is_whole (rw row_is at iq_room) (rw row_is at short))

          pub both_long : count bytes * row.slots ≤ mic → Ok row ≡ given
          both_long mic_room =
              ap Ok row_is ∙ answered Accepted (cases.all_good bytes n iq mic is_counted is_whole (rw row_is at iq_room) (rw row_is at mic_room))

module _ (input : List ℕ) (n : ℕ) (iq mic : List ℤ) where
  abbrev first : Answer
  first = answer_of (length input) n (length iq) (length mic)

  module _ (row : Row) (is : Ok row ≡ row_after first n) where
    begun : (first ≡ Accepted) × (row ≡ row_of n)
    begun = row_given first n row is

    pub row_ready : Ready (count (length input)) row.receivers (length input) (length iq) (length mic)
    row_ready = let row_is = begun.1 in rw row_is (cases.good (length input) n (length iq) (length mic) begun.0)

    pub read_with_row : (s : Status) → one_by_one row.receivers (frames_in input) (none_read Accepted iq mic s) ≡ transfer_of input n iq mic s
    read_with_row s = let row_is = begun.1 in rw row_is (sym (cases.transfer_begun input n iq mic s begun.0))

  pub refused_whole : (refusal : Refusal) → Err refusal ≡ row_after first n → (s : Status) → none_read (Err refusal) iq mic s ≡ transfer_of input n iq mic s
  refused_whole refusal is s =
      sym (cases.transfer_refused input n iq mic s (Err refusal) (row_refused first n refusal is) (not_accepted refusal))
