-- Reading a payload slot by slot: how far the samples stand in their slices, and one slot more. Assumes nothing.
use mathlib.Core.Path.{◌≡◌, refl, sym, ap, ◌∙◌}
use mathlib.Core.List.{List}
use Prim.Native.Nat.{ℕ, ◌+◌, ◌-◌, ◌*◌, ◌<◌, ◌≤◌}
use native.Mathlib.Nat.{le_trans, zero-mul, add-mul, one-mul, add_assoc, add-sub_cancel_left}
use native.Mathlib.Omega.{arith}
use borrow.Rule.Slice.PartMut.{put_mid, mid_of, mid_len}
use lib.IntN.{ℤ}
use lib.ListN.{length, get_or, take, drop, set, length-set}
use lib.Seq.{get_or-take, get_or-drop}
use Rattle.wire.specs.Lists.{tab, over, over_at}
use Rattle.wire.proofs.Lists.{over-more, length-over_at, over_at-same, over-then}
use Rattle.layout.specs.Slots.{slot, slots, values}
use Rattle.layout.proofs.Places.{slot_in_payload, values-inside, place_in_slot}
use Rattle.radio_samples.specs.Samples.{sample24, sample16, iq_at, mic_at}

-- a sample of a part is the sample of the whole that stands there
module _ (p : List ℕ) (from size : ℕ) where
  at_place : (i : ℕ) → i < size → get_or (take size (drop from p)) i 0 ≡ get_or p (from + i) 0
  at_place i h = get_or-take size (drop from p) i 0 h ∙ get_or-drop from p i 0

  part24 : (at : ℕ) → at + 2 < size → sample24 (take size (drop from p)) at ≡ sample24 p (from + at)
  part24 at h =
      rw (at_place at (omega arith), at_place (at + 1) (omega arith), at_place (at + 2) h, ← add_assoc from at 1, ← add_assoc from at 2)

  part16 : (at : ℕ) → at + 1 < size → sample16 (take size (drop from p)) at ≡ sample16 p (from + at)
  part16 at h = rw (at_place at (omega arith), at_place (at + 1) h, ← add_assoc from at 1)

-- t of the slots are read
pub record ReadTo (payload : List ℕ) (n : ℕ) (iq₀ mic₀ : List ℤ) (size count : ℕ) (iq mic : List ℤ) (t : ℕ) : Type 0 where
  pub size_is : size ≡ slot n
  pub count_is : count ≡ slots n
  pub whole : length payload ≡ 504
  pub iq_room : values n ≤ length iq₀
  pub mic_room : slots n ≤ length mic₀
  pub within : t ≤ count
  pub iq_long : length iq ≡ length iq₀
  pub mic_long : length mic ≡ length mic₀
  pub iq_is : iq ≡ over (t * (2 * n)) (iq_at n payload) iq₀
  pub mic_is : mic ≡ over t (mic_at n payload) mic₀

module _ (payload : List ℕ) (n : ℕ) (iq₀ mic₀ : List ℤ) (size count : ℕ) where
  pub start : size ≡ slot n → count ≡ slots n → length payload ≡ 504 → values n ≤ length iq₀ → slots n ≤ length mic₀ → ReadTo payload n iq₀ mic₀ size count iq₀ mic₀ 0
  start size_is count_is whole iq_room mic_room =
      record {
        size_is = size_is;
        count_is = count_is;
        whole = whole;
        iq_room = iq_room;
        mic_room = mic_room;
        within = omega arith;
        iq_long = refl;
        mic_long = refl;
        iq_is = rw (zero-mul (2 * n));
        mic_is = refl;
      }

  module _ (iq mic : List ℤ) (t : ℕ) (so_far : ReadTo payload n iq₀ mic₀ size count iq mic t) where
    module _ (below : t < count) where
      pub in_payload : t * size + size ≤ 504
      in_payload = rw so_far.size_is (slot_in_payload n t (rw so_far.count_is at below))

      values_room : t * (2 * n) + 2 * n ≤ length iq₀
      values_room = le_trans (values-inside n t (rw so_far.count_is at below)) so_far.iq_room

      pub slot_room : t * (2 * n) + 2 * n ≤ length iq
      slot_room = rw so_far.iq_long values_room

      -- the samples of slot t, as a part of the payload, are those that its values stand for
      value_in_slot : (j : ℕ) → j < 2 * n → sample24 (take size (drop (t * size) payload)) (3 * j) ≡ iq_at n payload (t * (2 * n) + j)
      value_in_slot j inside =
          part24 payload (t * size) size (3 * j) (rw so_far.size_is (omega arith))
          ∙ rw (so_far.size_is, place_in_slot n t j inside)

      mic_in_slot : sample16 (take size (drop (t * size) payload)) (6 * n) ≡ mic_at n payload t
      mic_in_slot = part16 payload (t * size) size (6 * n) (rw so_far.size_is (omega arith)) ∙ rw so_far.size_is

      -- the values of slot t, as a part of their slice, and the slice with others in their place
      abbrev from : ℕ
      from = t * (2 * n)

      pub part_long : length (mid_of from (from + 2 * n - from) iq) ≡ 2 * n
      part_long = mid_len from (from + 2 * n) iq slot_room ∙ add-sub_cancel_left from (2 * n)

      pub values_put : (f : ℕ → ℤ) (new : List ℤ) → new ≡ tab (length (mid_of from (from + 2 * n - from) iq)) f → put_mid from (from + 2 * n - from) iq new ≡ over_at from (2 * n) f iq
      values_put f new is = rw (is, part_long, add-sub_cancel_left from (2 * n))

      pub mic_read : (width : ℕ) (x : ℤ) → x ≡ sample16 (take width (drop (t * size) payload)) (3 * length (mid_of from (from + 2 * n - from) iq)) → set mic t x ≡ set mic t (sample16 (take width (drop (t * size) payload)) (6 * n))
      mic_read width x is =
          let place : 3 * length (mid_of from (from + 2 * n - from) iq) ≡ 6 * n = omega (arith, part_long) in
          rw (is, place)

      pub one_slot_more : (width : ℕ) (iq' mic' : List ℤ) → width ≡ size → iq' ≡ over_at (t * (2 * n)) (2 * n) (λ j. sample24 (take width (drop (t * size) payload)) (3 * j)) iq → mic' ≡ set mic t (sample16 (take width (drop (t * size) payload)) (6 * n)) → ReadTo payload n iq₀ mic₀ size count iq' mic' (t + 1)
      one_slot_more width iq' mic' width_is iq-wrote' mic-wrote' =
          let iq-wrote = rw width_is at iq-wrote' in
          let mic-wrote = rw width_is at mic-wrote' in
          let next : t * (2 * n) + 2 * n ≡ (t + 1) * (2 * n) = sym (add-mul t 1 (2 * n) ∙ ap (λ k. t * (2 * n) + k) (one-mul (2 * n))) in
          record {
            size_is = so_far.size_is;
            count_is = so_far.count_is;
            whole = so_far.whole;
            iq_room = so_far.iq_room;
            mic_room = so_far.mic_room;
            within = omega arith;
            iq_long = ap length iq-wrote ∙ length-over_at (t * (2 * n)) (2 * n) _ iq slot_room ∙ so_far.iq_long;
            mic_long = ap length mic-wrote ∙ length-set mic t _ ∙ so_far.mic_long;
            iq_is =
                iq-wrote ∙ over_at-same (t * (2 * n)) (2 * n) _ (λ j. iq_at n payload (t * (2 * n) + j)) iq value_in_slot
                ∙ ap (over_at (t * (2 * n)) (2 * n) (λ j. iq_at n payload (t * (2 * n) + j))) so_far.iq_is
                ∙ over-then (t * (2 * n)) (2 * n) (iq_at n payload) iq₀ values_room
                ∙ ap (λ k. over k (iq_at n payload) iq₀) next;
            mic_is =
                mic-wrote ∙ rw (so_far.mic_is, mic_in_slot) (over-more t (mic_at n payload) mic₀ (omega (arith, so_far.mic_room, so_far.count_is)));
          }
