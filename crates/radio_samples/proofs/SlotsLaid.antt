-- The bytes of a slot that is written: how many there are, and its microphone bytes laid after its values; and the padding
-- laid after all slots. Assumes nothing.
use mathlib.Core.Path.{◌≡◌, refl, sym, ap, ◌∙◌}
use mathlib.Core.List.{List, ◌++◌, append_assoc}
use Prim.Native.Nat.{ℕ, ◌+◌, ◌-◌, ◌*◌, ◌<◌, ◌≤◌}
use native.Mathlib.Nat.{add-sub_cancel_left}
use native.Mathlib.Omega.{arith}
use lib.IntN.{ℤ, pos}
use lib.ListN.{length, get_or, take, drop, replicate, length-append}
use borrow.Rule.Slice.PartMut.{put_mid, mid_of, mid_len}
use lib.Seq.{sets, sets-eq, length-sets, drop-drop, get_or-take, get_or-drop}
use Rattle.wire.specs.Lists.{tabs}
use Rattle.wire.specs.Numbers.{bytes_of, unsigned}
use Rattle.wire.proofs.Lists.{length-tabs, tabs-same, sets-append, sets-all, tab-constant, over_at-sets}
use Rattle.layout.specs.Slots.{slot, slots, padding}
use Rattle.layout.proofs.Places.{whole_payload}
use Rattle.radio_samples.specs.Fill.{iq_bytes, mic_bytes, slot_bytes, payload_of}

-- a part of a slice that was lent, put back
put_sets : {A : Type 0} (at : ℕ) (xs ys : List A) → at + length ys ≤ length xs → put_mid at (length ys) xs ys ≡ sets xs at ys
put_sets at xs ys room =
    sym (sets-eq ys xs at room ∙ rw (append_assoc (take at xs) ys (drop (at + length ys) xs), drop-drop (length ys) at xs))

-- a slot is its values, and then the two bytes of its microphone value
module _ (values : List ℤ) (x : ℤ) where
  abbrev laid : List ℕ
  laid = tabs (length values) (iq_bytes values)

  laid_long : length laid ≡ 3 * length values
  laid_long = length-tabs 3 (iq_bytes values) (length values) (λ j h. refl) ∙ omega arith

  pub mic_after_values : (slot₀ slot₁ : List ℕ) → length slot₀ ≡ 3 * length values + 2 → slot₁ ≡ sets slot₀ 0 laid → sets slot₁ (3 * length values) (bytes_of 2 (unsigned 16 x)) ≡ laid ++ bytes_of 2 (unsigned 16 x)
  mic_after_values slot₀ slot₁ long wrote =
      let place : 3 * length values ≡ 0 + length laid = omega (arith, laid_long) in
      let whole : length (laid ++ bytes_of 2 (unsigned 16 x)) ≡ length slot₀ = length-append laid (bytes_of 2 (unsigned 16 x)) ∙ omega (arith, laid_long, long) in
      rw (wrote, place) (sets-append slot₀ 0 laid (bytes_of 2 (unsigned 16 x)) ∙ sets-all slot₀ (laid ++ bytes_of 2 (unsigned 16 x)) whole)

module _ (n : ℕ) (iq mic : List ℤ) (t : ℕ) where
  pub values_long : length (tabs (2 * n) (λ j. iq_bytes iq (t * (2 * n) + j))) ≡ 6 * n
  values_long = length-tabs 3 _ (2 * n) (λ j h. refl) ∙ omega arith

  pub slot_long : length (slot_bytes n iq mic t) ≡ slot n
  slot_long = length-append (tabs (2 * n) (λ j. iq_bytes iq (t * (2 * n) + j))) (mic_bytes mic t) ∙ ap (λ m. m + 2) values_long

  -- the values of slot t, as they are lent, are written as those of the whole that stand there
  abbrev from : ℕ
  from = t * (2 * n)

  abbrev lent : List ℤ
  lent = take (from + 2 * n - from) (drop from iq)

  module _ (room : from + 2 * n ≤ length iq) where
    pub lent_long : length lent ≡ 2 * n
    lent_long = mid_len from (from + 2 * n) iq room ∙ add-sub_cancel_left from (2 * n)

    lent_value : (j : ℕ) → j < 2 * n → iq_bytes lent j ≡ iq_bytes iq (from + j)
    lent_value j below =
        ap (λ x. bytes_of 3 (unsigned 24 x)) (get_or-take (from + 2 * n - from) (drop from iq) j (pos 0) (omega arith) ∙ get_or-drop from iq j (pos 0))

    lent_bytes : tabs (length lent) (iq_bytes lent) ≡ tabs (2 * n) (λ j. iq_bytes iq (from + j))
    lent_bytes = rw lent_long (tabs-same (2 * n) (iq_bytes lent) (λ j. iq_bytes iq (from + j)) lent_value)

    pub slot_put : (at : ℕ) (frame new : List ℕ) (x : ℤ) → at + slot n ≤ length frame → x ≡ get_or mic t (pos 0) → new ≡ tabs (length lent) (iq_bytes lent) ++ bytes_of 2 (unsigned 16 x) → put_mid at (at + slot n - at) frame new ≡ sets frame at (slot_bytes n iq mic t)
    slot_put at frame new x fits mic_is new_is =
        let is : new ≡ slot_bytes n iq mic t = rw (new_is, lent_bytes, mic_is) in
        let long : length new ≡ slot n = ap length is ∙ slot_long in
        rw (add-sub_cancel_left at (slot n), ← long) (put_sets at frame new (rw long fits)) ∙ ap (sets frame at) is

module _ (n : ℕ) (iq mic : List ℤ) where
  pub slots_long : length (tabs (slots n) (slot_bytes n iq mic)) ≡ slots n * slot n
  slots_long = length-tabs (slot n) (slot_bytes n iq mic) (slots n) (λ t h. slot_long n iq mic t)

  -- over any frame of 512 bytes, slots and then zeros in the rest leave the payload that is meant
  pub payload_laid : (f f₁ zeros : List ℕ) (start : ℕ) → start ≡ 512 - padding n → length f ≡ 512 → f₁ ≡ sets f 8 (tabs (slots n) (slot_bytes n iq mic)) → zeros ≡ replicate (length (mid_of start (length f₁ - start) f₁)) 0 → put_mid start (length f₁ - start) f₁ zeros ≡ sets f 8 (payload_of n iq mic)
  payload_laid f f₁ zeros start start_is long one two =
      let same : length f₁ ≡ 512 = ap length one ∙ length-sets f 8 (tabs (slots n) (slot_bytes n iq mic)) ∙ long in
      let rest : length f₁ - start ≡ padding n = omega (arith, whole_payload n) in
      let zeros_are : zeros ≡ replicate (padding n) 0 = two ∙ ap (λ m. replicate m 0) (mid_len start (length f₁) f₁ (omega arith) ∙ rest) in
      let place : start ≡ 8 + length (tabs (slots n) (slot_bytes n iq mic)) = omega (arith, slots_long, whole_payload n) in
      let zero : ℕ = 0 in
      let put : put_mid start (padding n) f₁ (replicate (padding n) 0) ≡ sets f₁ start (replicate (padding n) 0) =
      rw (← tab-constant (padding n) zero) (over_at-sets start (padding n) (λ i. zero) f₁ (omega (arith, whole_payload n))) in
      rw (rest, zeros_are, put, one, place) (sets-append f 8 (tabs (slots n) (slot_bytes n iq mic)) (replicate (padding n) 0))
