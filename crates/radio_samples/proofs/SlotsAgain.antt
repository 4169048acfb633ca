-- Samples that were read, written again: each slot's bytes come back, and with the padding the payload. Assumes nothing.
use mathlib.Core.Path.{◌≡◌, refl, sym, ap, ap₂, ◌∙◌}
use mathlib.Core.Bool.{true}
use mathlib.Core.List.{List, [], ◌∷◌, ◌++◌}
use Prim.Native.Nat.{ℕ, zero, suc, ◌+◌, ◌*◌, ◌^◌, ◌<◌, ◌≤◌}
use native.Mathlib.Nat.{add-zero}
use native.Mathlib.Omega.{arith}
use lib.IntN.{ℤ, pos}
use lib.ListN.{length, get_or, take, drop, length-drop}
use lib.Seq.{drop-drop, take-add, take_at, get_or-drop}
use Rattle.wire.specs.Every.{all_fit}
use Rattle.wire.proofs.Everywhere.{every-tab}
use Rattle.wire.specs.Lists.{tab, over, tabs}
use Rattle.wire.specs.Numbers.{be, bytes_of, unsigned, Bytes, fits}
use Rattle.wire.proofs.Bytes.{bytes_back, be-fits}
use Rattle.wire.proofs.Lists.{length-tab, get_d_over, tabs-same, first_parts, tab-get_or}
use Rattle.wire.proofs.Signed.{signed_by_fits, mag-fits}
use Rattle.layout.specs.Slots.{slot, slots, values, iq_place}
use Rattle.layout.proofs.Places.{whole_payload, slot_in_payload, values-inside, place_in_slot}
use Rattle.radio_samples.specs.Samples.{sample24, sample16, iq_at, mic_at}
use Rattle.radio_samples.specs.Fill.{iq_bytes, mic_bytes, slot_bytes}

-- the bytes of a sample
abbrev two : List ℕ → ℕ → List ℕ
two p at = get_or p at 0 ∷ get_or p (at + 1) 0 ∷ []

abbrev three : List ℕ → ℕ → List ℕ
three p at = get_or p at 0 ∷ get_or p (at + 1) 0 ∷ get_or p (at + 2) 0 ∷ []

module _ (p : List ℕ) (at : ℕ) where
  byte_at : (i : ℕ) → get_or (drop at p) i 0 ≡ get_or p (at + i) 0
  byte_at i = get_or-drop at p i 0

  first_byte : get_or (drop at p) 0 0 ≡ get_or p at 0
  first_byte = byte_at 0 ∙ ap (λ k. get_or p k 0) (add-zero at)

  two-part : at + 2 ≤ length p → two p at ≡ take 2 (drop at p)
  two-part room =
      (λ i. sym first_byte i ∷ sym (byte_at 1) i ∷ []) ∙ tab-get_or 2 (drop at p) 0 (rw (length-drop at p) (omega arith))

  three-part : at + 3 ≤ length p → three p at ≡ take 3 (drop at p)
  three-part room =
      (λ i. sym first_byte i ∷ sym (byte_at 1) i ∷ sym (byte_at 2) i ∷ []) ∙ tab-get_or 3 (drop at p) 0 (rw (length-drop at p) (omega arith))

  module _ (small : Bytes p) where
    two_small : Bytes (two p at)
    two_small zero = small at
    two_small (suc zero) = small (at + 1)
    two_small (suc (suc i)) = omega arith

    three_small : Bytes (three p at)
    three_small zero = small at
    three_small (suc zero) = small (at + 1)
    three_small (suc (suc zero)) = small (at + 2)
    three_small (suc (suc (suc i))) = omega arith

    sample24_again : bytes_of 3 (unsigned 24 (sample24 p at)) ≡ three p at
    sample24_again = bytes_back 3 (2 ^ 23) refl (three p at) refl three_small

    sample16_again : bytes_of 2 (unsigned 16 (sample16 p at)) ≡ two p at
    sample16_again = bytes_back 2 (2 ^ 15) refl (two p at) refl two_small

    sample24_fits : fits 24 (sample24 p at) ≡ true
    sample24_fits = mag-fits (2 ^ 23) (sample24 p at) (signed_by_fits (2 ^ 23) (be (three p at)) (be-fits (three p at) three_small))

module _ (n : ℕ) (p : List ℕ) (small : Bytes p) (whole : length p ≡ 504) (iq mic : List ℤ) where
  abbrev iq_read : List ℤ
  iq_read = over (values n) (iq_at n p) iq

  abbrev mic_read : List ℤ
  mic_read = over (slots n) (mic_at n p) mic

  module _ (t : ℕ) (below : t < slots n) where
    abbrev from_slot : List ℕ
    from_slot = drop (t * slot n) p

    in_payload : t * slot n + slot n ≤ length p
    in_payload = omega (arith, slot_in_payload n t below)

    value_again : (j : ℕ) → j < 2 * n → iq_bytes iq_read (t * (2 * n) + j) ≡ take 3 (drop (j * 3) from_slot)
    value_again j inside =
        let among : t * (2 * n) + j < values n = omega (arith, values-inside n t below) in
        let place : t * slot n + 3 * j ≡ t * slot n + j * 3 = omega arith in
        ap (λ z. bytes_of 3 (unsigned 24 z)) (get_d_over (values n) (iq_at n p) iq (t * (2 * n) + j) (pos 0) among ∙ ap (sample24 p) (place_in_slot n t j inside))
        ∙ sample24_again p (t * slot n + 3 * j) small
        ∙ three-part p (t * slot n + 3 * j) (omega (arith, in_payload))
        ∙ ap (λ k. take 3 (drop k p)) place
        ∙ ap (take 3) (sym (drop-drop (j * 3) (t * slot n) p))

    mic_again : mic_bytes mic_read t ≡ take 2 (drop (2 * n * 3) from_slot)
    mic_again =
        let place : t * slot n + 6 * n ≡ t * slot n + 2 * n * 3 = omega arith in
        ap (λ z. bytes_of 2 (unsigned 16 z)) (get_d_over (slots n) (mic_at n p) mic t (pos 0) below)
        ∙ sample16_again p (t * slot n + 6 * n) small
        ∙ two-part p (t * slot n + 6 * n) (omega (arith, in_payload))
        ∙ ap (λ k. take 2 (drop k p)) place
        ∙ ap (take 2) (sym (drop-drop (2 * n * 3) (t * slot n) p))

    slot_again : slot_bytes n iq_read mic_read t ≡ take (slot n) from_slot
    slot_again =
        let room : 2 * n * 3 ≤ length from_slot = rw (length-drop (t * slot n) p) (omega (arith, in_payload)) in
        let size : 2 * n * 3 + 2 ≡ slot n = omega arith in
        ap₂ ◌++◌ (tabs-same (2 * n) _ (λ j. take 3 (drop (j * 3) from_slot)) value_again ∙ first_parts (2 * n) 3 from_slot room) mic_again
        ∙ sym (take-add (2 * n * 3) 2 from_slot)
        ∙ ap (λ k. take k from_slot) size

  pub slots_again : tabs (slots n) (slot_bytes n iq_read mic_read) ≡ take (slots n * slot n) p
  slots_again =
      tabs-same (slots n) _ (λ t. take (slot n) (drop (t * slot n) p)) slot_again
      ∙ first_parts (slots n) (slot n) p (omega (arith, whole_payload n))

  pub samples_fit : all_fit (take (values n) iq_read) ≡ true
  samples_fit =
      ap all_fit (take_at (tab (values n) (iq_at n p)) (drop (values n) iq) (values n) (length-tab (values n) (iq_at n p)))
      ∙ every-tab (fits 24) (values n) (iq_at n p) (λ k below. sample24_fits p (iq_place n k) small)
