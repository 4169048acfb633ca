-- Samples that were written, read again from the payload. Assumes nothing.
use mathlib.Core.Path.{◌≡◌, refl, sym, ap, ◌∙◌}
use mathlib.Core.Bool.{true}
use mathlib.Core.List.{List, ◌++◌}
use Prim.Native.Nat.{ℕ, ◌+◌, ◌*◌, ◌/◌, ◌%◌, ◌^◌, ◌<◌, ◌≤◌}
use native.Mathlib.Nat.{mod-lt, div-add-mod'}
use native.Mathlib.Omega.{arith}
use lib.IntN.{ℤ, pos}
use lib.ListN.{length, get_or, take, get_or-append}
use lib.Seq.{get_or-append-add, get_or-take, length-take-le}
use lib.Signed.{mag}
use Rattle.wire.specs.Every.{all_fit}
use Rattle.wire.specs.Lists.{tab, tabs}
use Rattle.wire.specs.Numbers.{fits, Samples16}
use Rattle.wire.proofs.Bytes.{sample_back}
use Rattle.wire.proofs.Everywhere.{every-at}
use Rattle.wire.proofs.Lists.{get_or-tabs, length-tabs, tab-same, tab-get_or}
use Rattle.wire.proofs.Signed.{fits-mag}
use Rattle.layout.specs.Slots.{slot, slots, values}
use Rattle.layout.proofs.Places.{slot_of_value, slot-inside}
use Rattle.radio_samples.specs.Samples.{sample24, iq_at, mic_at}
use Rattle.radio_samples.specs.Fill.{iq_bytes, mic_bytes, slot_bytes}
use Rattle.radio_samples.proofs.SlotsLaid.{slot_long, values_long}

module _ (n : ℕ) (iq mic : List ℤ) (rest : List ℕ) where
  abbrev body : List ℕ
  body = tabs (slots n) (slot_bytes n iq mic) ++ rest

  -- byte i of slot t
  in-slot : (t i : ℕ) → t < slots n → i < slot n → get_or body (t * slot n + i) 0 ≡ get_or (slot_bytes n iq mic t) i 0
  in-slot t i below inside =
      get_or-append (tabs (slots n) (slot_bytes n iq mic)) rest 0 (t * slot n + i)
      (rw (length-tabs (slot n) (slot_bytes n iq mic) (slots n) (λ t h. slot_long n iq mic t)) (omega (arith, slot-inside n t below)))
      ∙ get_or-tabs (slot n) (slot_bytes n iq mic) (slots n) t i 0 (λ t h. slot_long n iq mic t) below inside

  -- byte i of its value j
  value_byte : (t j i : ℕ) → t < slots n → j < 2 * n → i < 3 → get_or body (t * slot n + (j * 3 + i)) 0 ≡ get_or (iq_bytes iq (t * (2 * n) + j)) i 0
  value_byte t j i below inside within =
      in-slot t (j * 3 + i) below (omega arith)
      ∙ get_or-append (tabs (2 * n) (λ j. iq_bytes iq (t * (2 * n) + j))) (mic_bytes mic t) 0 (j * 3 + i) (rw (values_long n iq mic t) (omega arith))
      ∙ get_or-tabs 3 (λ j. iq_bytes iq (t * (2 * n) + j)) (2 * n) j i 0 (λ j h. refl) inside within

  -- value j of slot t, read again
  value_back : (t j : ℕ) → t < slots n → j < 2 * n → mag (get_or iq (t * (2 * n) + j) (pos 0)) < 2 ^ 23 → sample24 body (t * slot n + 3 * j) ≡ get_or iq (t * (2 * n) + j) (pos 0)
  value_back t j below inside fits =
      let at : (i : ℕ) → t * slot n + 3 * j + i ≡ t * slot n + (j * 3 + i) = λ i. omega arith in
      let first : t * slot n + 3 * j ≡ t * slot n + (j * 3 + 0) = omega arith in
      rw (at 1, at 2, first, value_byte t j 0 below inside (omega arith), value_byte t j 1 below inside (omega arith), value_byte t j 2 below inside (omega arith))
      (sample_back 3 (2 ^ 23) refl (get_or iq (t * (2 * n) + j) (pos 0)) fits)

  pub iq-back : (k : ℕ) → 0 < n → k < values n → mag (get_or iq k (pos 0)) < 2 ^ 23 → iq_at n body k ≡ get_or iq k (pos 0)
  iq-back k some below fits =
      let whole : k / (2 * n) * (2 * n) + k % (2 * n) ≡ k = div-add-mod' k (2 * n) in
      value_back (k / (2 * n)) (k % (2 * n)) (slot_of_value n k some below) (mod-lt k (omega arith)) (rw whole fits) ∙ ap (λ k. get_or iq k (pos 0)) whole

  mic-byte : (t i : ℕ) → t < slots n → i < 2 → get_or body (t * slot n + (6 * n + i)) 0 ≡ get_or (mic_bytes mic t) i 0
  mic-byte t i below within =
      in-slot t (6 * n + i) below (omega arith)
      ∙ ap (λ m. get_or (slot_bytes n iq mic t) (m + i) 0) (sym (values_long n iq mic t))
      ∙ get_or-append-add (tabs (2 * n) (λ j. iq_bytes iq (t * (2 * n) + j))) (mic_bytes mic t) i 0

  pub mic-back : (t : ℕ) → t < slots n → mag (get_or mic t (pos 0)) < 2 ^ 15 → mic_at n body t ≡ get_or mic t (pos 0)
  mic-back t below fits =
      let next : t * slot n + 6 * n + 1 ≡ t * slot n + (6 * n + 1) = omega arith in
      let first : t * slot n + 6 * n ≡ t * slot n + (6 * n + 0) = omega arith in
      rw (next, first, mic-byte t 0 below (omega arith), mic-byte t 1 below (omega arith))
      (sample_back 2 (2 ^ 15) refl (get_or mic t (pos 0)) fits)

  -- all of them
  pub all_iq_back : 0 < n → values n ≤ length iq → all_fit (take (values n) iq) ≡ true → tab (values n) (iq_at n body) ≡ take (values n) iq
  all_iq_back some room fit =
      tab-same (values n) (iq_at n body) (λ k. get_or iq k (pos 0))
      (λ k below.
      let passed : fits 24 (get_or iq k (pos 0)) ≡ true = ap (fits 24) (sym (get_or-take (values n) iq k (pos 0) below)) ∙ every-at (fits 24) (take (values n) iq) fit k (pos 0) (rw (length-take-le (values n) iq room) below) in
      iq-back k some below (fits-mag (2 ^ 23) (get_or iq k (pos 0)) passed))
      ∙ tab-get_or (values n) iq (pos 0) room

  pub all_mic_back : slots n ≤ length mic → Samples16 mic → tab (slots n) (mic_at n body) ≡ take (slots n) mic
  all_mic_back room small =
      tab-same (slots n) (mic_at n body) (λ t. get_or mic t (pos 0)) (λ t below. mic-back t below (small t)) ∙ tab-get_or (slots n) mic (pos 0) room
