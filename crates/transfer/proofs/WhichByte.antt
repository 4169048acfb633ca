-- The byte that a refused transfer names is one of the frame after those that were read: it is wrong, and every byte before it, among those of
-- that frame that are tested, is right; the level that it names is that frame's first above 4,095; and no other answer names one. Assumes
-- nothing.
use mathlib.Core.Path.{◌≡◌, refl, sym, ap, subst⁻¹}
use mathlib.Core.Bool.{Bool, true, false, not, ◌||◌}
use mathlib.Core.List.{List, [], ◌∷◌}
use Prim.Native.Nat.{ℕ, ◌*◌, ◌<◌, ◌≤◌}
use native.Mathlib.Omega.{arith}
use lib.Dec.{ltb}
use lib.IntN.{ℤ}
use lib.ListN.{length, drop}
use Rattle.wire.specs.Answers.{Answer, ◌gives◌, first, number_of, accepts}
use Rattle.wire.specs.declared.Refusal.TheVariants.{BadCount, Length, ShortBuffer}
use Rattle.wire.proofs.Cases.{by_test, by_order}
use Rattle.wire.proofs.First.{accepts-only, no_place}
use Rattle.layout.specs.Slots.{counted, slots, values}
use Rattle.radio_status.specs.declared.record.Status.{Status}
use Rattle.radio.specs.WhichByte.{TellsWhich}
use Rattle.radio.proofs.WhichByte as single
use Rattle.transfer.specs.SingleReads.{Standing, single_reads}
use Rattle.transfer.specs.Transfer.{Outcome, count, whole, frame_at, answer_of, transfer_of}
use Rattle.transfer.proofs.Cases.{transfer_refused}
use Rattle.transfer.proofs.SingleReads.{equals_single_reads}

-- a refusal before any frame has a lower number than a frame's, and names no byte
low : (a b c : Bool) → number_of (first (a gives BadCount ∷ b gives Length ∷ c gives ShortBuffer ∷ [])) ≤ 4
low true b c = omega arith
low false true c = omega arith
low false false true = omega arith
low false false false = omega arith

low_before : (bytes n iq mic : ℕ) → number_of (answer_of bytes n iq mic) ≤ 4
unfolding answer_of
low_before bytes n iq mic = low (not (counted n)) (not (whole bytes)) (ltb iq (count bytes * values n) || ltb mic (count bytes * slots n))

tells_none : (frame : List ℕ) (n : ℕ) (a : Answer) → number_of a ≤ 4 → TellsWhich frame n a
tells_none frame n a few =
    record {
      sync = λ is. absurd (omega (arith, few, is));
      padding = λ is. absurd (omega (arith, few, is));
      level = λ is. absurd (omega (arith, few, is));
      none = λ _ _ _. no_place a (λ is. omega (arith, few, is)) (λ is. omega (arith, few, is)) (λ is. omega (arith, few, is));
    }

module _ (input : List ℕ) (n : ℕ) (iq mic : List ℤ) (s : Status) where
  abbrev o : Outcome
  o = transfer_of input n iq mic s

  abbrev before_any : Answer
  before_any = answer_of (length input) n (length iq) (length mic)

  answer-before : accepts before_any ≡ false → o.answer ≡ before_any
  answer-before refused = ap (λ (r : Outcome). r.answer) (transfer_refused input n iq mic s before_any refl refused)

  -- the frame that a frame's refusal speaks of is one of the input's
  pub which_frame : 5 < number_of o.answer → o.frames < count (length input)
  which_frame high =
      by_test (accepts before_any)
      (λ is.
      by_order o.frames (count (length input)) (λ inside. inside)
      (λ over. let none = ap number_of ((equals_single_reads input n iq mic s (accepts-only before_any is)).finished over) in absurd (omega (arith, none, high))))
      (λ refused. let same = ap number_of (answer-before refused) in absurd (omega (arith, same, high, low_before (length input) n (length iq) (length mic))))

  pub which_byte : TellsWhich (frame_at input o.frames) n o.answer
  which_byte =
      by_test (accepts before_any)
      (λ is.
      let reads = equals_single_reads input n iq mic s (accepts-only before_any is) in
      by_order o.frames (count (length input))
      (λ inside.
      let stands : Standing = single_reads input n o.frames (record { status = s; iq = iq; mic = mic }) in
      subst⁻¹ (TellsWhich (frame_at input o.frames) n) (sym (reads.stopped inside).0) (single.which_byte (frame_at input o.frames) n (drop (o.frames * values n) stands.iq) (drop (o.frames * slots n) stands.mic) stands.status))
      (λ over. subst⁻¹ (TellsWhich (frame_at input o.frames) n) (reads.finished over) (tells_none (frame_at input o.frames) n _ (omega arith))))
      (λ refused. subst⁻¹ (TellsWhich (frame_at input o.frames) n) (answer-before refused) (tells_none (frame_at input o.frames) n before_any (low_before (length input) n (length iq) (length mic))))
