-- One frame more: its single read on the rest of the slices is the definition's next outcome. Assumes nothing.
use mathlib.Core.Path.{◌≡◌, sym, ap, ◌∙◌}
use mathlib.Core.Bool.{cond}
use mathlib.Core.List.{List, ◌++◌}
use Prim.Native.Nat.{ℕ, ◌+◌, ◌-◌, ◌*◌, ◌<◌, ◌≤◌}
use native.Mathlib.Nat.{add-sub_cancel_left}
use native.Mathlib.Omega.{arith}
use borrow.Rule.Slice.PartMut.{put_mid}
use lib.IntN.{ℤ}
use lib.ListN.{length, take, drop}
use Rattle.std.specs.Prelude.{Ok, Err}
use Rattle.wire.specs.Answers.{accepts}
use Rattle.wire.specs.declared.Refusal.{Refusal}
use Rattle.layout.specs.Slots.{slots, values}
use Rattle.radio_status.specs.declared.record.Status.{Status}
use Rattle.radio.specs.Read.{read_of, gave}
use Rattle.radio.specs.Read as Read
use Rattle.radio.specs.declared.Reading.{Reading}
use Rattle.layout.proofs.Places.{few_values, few_slots}
use Rattle.transfer.specs.Steps.{Ready, reached, next}
use Rattle.transfer.specs.Transfer.{count, frame_at, single, behind, one_more}
use Rattle.transfer.proofs.Room.{starts, rest_lent, rest_back}
use Rattle.radio.proofs.Cases.{not_accepted}

-- a frame has v values of I and Q and t slots, and the next one is frame k
module _ (n v t : ℕ) (v-is : v ≡ values n) (t-is : t ≡ slots n) (k : ℕ) (s : Status) (input : List ℕ) (iq mic : List ℤ) where
  module _ (below : k < count (length input)) (ready : Ready (count (length input)) n (length input) (length iq) (length mic)) where
    iq_inside : k * v ≤ length iq
    iq_inside = rw v-is (starts k _ _ _ below ready.few (few_values n) ready.iq_room).inside

    mic_inside : k * t ≤ length mic
    mic_inside = rw t-is (starts k _ _ _ below ready.few (omega (arith, few_slots n)) ready.mic_room).inside

    -- the single read of the parts that are lent to it
    abbrev pub lent : Read.Outcome
    lent =
        read_of (take (k * 512 + 512 - k * 512) (drop (k * 512) input)) n (take (length iq - k * v) (drop (k * v) iq)) (take (length mic - k * t) (drop (k * t) mic)) s

    lent_is : lent ≡ single n (reached k s iq mic) (frame_at input k)
    unfolding single
    lent_is =
        let frame_is : k * 512 + 512 - k * 512 ≡ 512 = add-sub_cancel_left (k * 512) 512 in
        let iq_is : take (length iq - k * v) (drop (k * v) iq) ≡ drop (k * values n) iq = rest_lent (k * v) iq iq_inside ∙ ap (λ u. drop (k * u) iq) v-is in
        let mic_is : take (length mic - k * t) (drop (k * t) mic) ≡ drop (k * slots n) mic = rest_lent (k * t) mic mic_inside ∙ ap (λ u. drop (k * u) mic) t-is in
        (λ i. read_of (take (frame_is i) (drop (k * 512) input)) n (iq_is i) (mic_is i) s)

    module _ (iq₁ mic₁ : List ℤ) where
      abbrev iq_after : List ℤ
      iq_after = put_mid (k * v) (length iq - k * v) iq iq₁

      abbrev mic_after : List ℤ
      mic_after = put_mid (k * t) (length mic - k * t) mic mic₁

      iq_is : iq_after ≡ take (k * values n) iq ++ iq₁
      iq_is = rest_back (k * v) iq iq_inside iq₁ ∙ ap (λ u. take (k * u) iq ++ iq₁) v-is

      mic_is : mic_after ≡ take (k * slots n) mic ++ mic₁
      mic_is = rest_back (k * t) mic mic_inside mic₁ ∙ ap (λ u. take (k * u) mic ++ mic₁) t-is

      read_is : (one : Read.Outcome) → one ≡ lent → behind n (reached k s iq mic) one ≡ one_more n (reached k s iq mic) (frame_at input k)
      unfolding one_more
      read_is one is = ap (behind n (reached k s iq mic)) (is ∙ lent_is)

      pub one_read : (r : Reading) → gave s (Ok r) iq₁ mic₁ ≡ lent → next k s (Ok r.status) iq_after mic_after ≡ one_more n (reached k s iq mic) (frame_at input k)
      one_read r is = (λ i. reached (k + 1) r.status (iq_is i) (mic_is i)) ∙ read_is (gave s (Ok r) iq₁ mic₁) is

      pub one_refused : (refusal : Refusal) → gave s (Err refusal) iq₁ mic₁ ≡ lent → next k s (Err refusal) iq_after mic_after ≡ one_more n (reached k s iq mic) (frame_at input k)
      one_refused refusal is =
          let counted : cond (accepts (Err refusal)) (k + 1) k ≡ k = rw (not_accepted refusal) in
          (λ i. record { answer = Err refusal; frames = sym counted i; status = s; iq = iq_is i; mic = mic_is i })
          ∙ read_is (gave s (Err refusal) iq₁ mic₁) is
