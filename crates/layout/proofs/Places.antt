-- Where the samples of n receivers stand in a payload, over n. Assumes nothing.
use mathlib.Core.Path.{◌≡◌}
use Prim.Native.Nat.{ℕ, ◌+◌, ◌*◌, ◌/◌, ◌<◌, ◌≤◌}
use native.Mathlib.Nat.{div-add-mod', mod-lt, div-lt_iff_lt-mul, mul_comm, mul-le-mul_left, mul-le-mul_right, suc-mul}
use native.Mathlib.Omega.{arith}
use lib.Arith.{digits_div, digits_mod}
use Rattle.layout.specs.Slots.{slot, slots, padding, values, iq_place, mic_place}

-- all slots and the padding are the payload
pub whole_payload : (n : ℕ) → slots n * slot n + padding n ≡ 504
unfolding slots padding
whole_payload n = div-add-mod' 504 (slot n)

module _ (n : ℕ) where
  -- slot t ends before the padding begins
  pub slot-inside : (t : ℕ) → t < slots n → t * slot n + slot n ≤ slots n * slot n
  slot-inside t below = rw (← suc-mul t (slot n)) (mul-le-mul_right (slot n) below)

  pub slot_in_payload : (t : ℕ) → t < slots n → t * slot n + slot n ≤ 504
  slot_in_payload t below = let e = whole_payload n in let h = slot-inside t below in omega arith

  -- no frame has more than 504 values, nor more than 252 slots
  pub few_slots : slots n + slots n ≤ 504
  few_slots = let e = whole_payload n in let h = mul-le-mul_left {m = 2} {n = slot n} (slots n) (omega arith) in omega arith

  pub few_pairs : n * slots n ≤ 252
  few_pairs =
      let e = whole_payload n in
      let h = mul-le-mul_left {m = 2 * n} {n = slot n} (slots n) (omega arith) in
      rw (mul_comm n (slots n)) (omega arith)

  pub few_values : values n ≤ 504
  few_values =
      let e = whole_payload n in
      let h = mul-le-mul_left {m = 2 * n} {n = slot n} (slots n) (omega arith) in
      rw (mul_comm (2 * n) (slots n)) (omega arith)

  -- the values of slot t are among all of them
  pub values-inside : (t : ℕ) → t < slots n → t * (2 * n) + 2 * n ≤ values n
  values-inside t below =
      rw (mul_comm (2 * n) (slots n), ← suc-mul t (2 * n)) (mul-le-mul_right (2 * n) below)

  module _ (t j : ℕ) (inside : j < 2 * n) where
    -- value j of slot t
    pub place_in_slot : iq_place n (t * (2 * n) + j) ≡ t * slot n + 3 * j
    place_in_slot = rw (digits_div t inside, digits_mod t inside)

  pub slot_of_value : (k : ℕ) → 0 < n → k < values n → k / (2 * n) < slots n
  slot_of_value k some below =
      (div-lt_iff_lt-mul {k = 2 * n} {x = k} {y = slots n} (omega arith)).1 (rw (mul_comm (slots n) (2 * n)) below)

  -- the three bytes of a value, and the two of the microphone, are inside the slots
  pub iq_inside : (k : ℕ) → 0 < n → k < values n → iq_place n k + 3 ≤ slots n * slot n
  iq_inside k some below =
      let in-slots = slot-inside (k / (2 * n)) (slot_of_value k some below) in
      let in-slot = mod-lt k {m = 2 * n} (omega arith) in
      omega arith

  pub mic_inside : (t : ℕ) → t < slots n → mic_place n t + 2 ≤ slots n * slot n
  mic_inside t below = let h = slot-inside t below in omega arith
