-- A host payload as a part of its frame, and where its numbers stand: in their slots, and in the payload as a whole. Assumes nothing.
use mathlib.Core.Path.{◌≡◌, refl, sym, ap, ap₂, ◌∙◌}
use mathlib.Core.List.{List, [], ◌∷◌}
use Prim.Native.Nat.{ℕ, zero, suc, ◌+◌, ◌-◌, ◌*◌, ◌/◌, ◌%◌, ◌<◌, ◌≤◌}
use native.Mathlib.Nat.{zero-add, zero-mul, suc-mul, mul_assoc}
use native.Mathlib.Omega.{arith}
use lib.IntN.{ℤ, pos}
use lib.ListN.{length, get_or, take, drop, length-drop}
use lib.Seq.{take_all, drop-drop, get_or-take, get_or-drop}
use Rattle.std.proofs.lemmas.List.{take-take}
use Rattle.std.proofs.lemmas.Slice.{between_is}
use Rattle.std.specs.Simd.{first_chunks}
use Rattle.wire.proofs.Lists.{length-tabs, tab-same, tabs-same, tab-parts, tabs-groups}
use Rattle.wire.specs.Lists.{tab, tabs}
use Rattle.wire.specs.Numbers.{be, signed}
use Rattle.host_samples.specs.Samples.{pair_of, standing, pair, slot_number, number, pair_bytes, pairs_from, payload_of, payload_from}

-- the payload as it is passed on
pub payload_part : (f : List ℕ) → take (length f - 8) (drop 8 f) ≡ payload_of f
payload_part f = take_all (length f - 8) (drop 8 f) (omega (arith, length-drop 8 f))

pub length_pairs : (n : ℕ) (audio : List ℤ) → length (pairs_from n audio) ≡ n * 2
unfolding pairs_from
length_pairs n audio = length-tabs 2 (λ m. pair_bytes (get_or audio (standing m) (pos 0))) n (λ t h. refl)

pub length-payload : (audio : List ℤ) → length (payload_from audio) ≡ 504
unfolding payload_from
length-payload audio = length_pairs 252 audio

-- what holds at each of a slot's four places
pub at_four : (P : ℕ → Type 0) → P 0 → P 1 → P 2 → P 3 → (j : ℕ) → j < 4 → P j
at_four P l r i q zero h = l
at_four P l r i q (suc zero) h = r
at_four P l r i q (suc (suc zero)) h = i
at_four P l r i q (suc (suc (suc zero))) h = q
at_four P l r i q (suc (suc (suc (suc j)))) h = absurd (omega arith)

pub pair_of-fits : (j : ℕ) → j < 4 → pair_of j < 4
pair_of-fits = at_four (λ j. pair_of j < 4) (omega arith) (omega arith) (omega arith) (omega arith)

-- in the first slot, and s slots on
pub standing-low : (j : ℕ) → j < 4 → standing j ≡ pair_of j
standing-low j h =
    let quotient : j / 4 ≡ 0 = omega arith in
    let remainder : j % 4 ≡ j = omega arith in
    ap₂ (λ a b. a * 4 + pair_of b) quotient remainder ∙ zero-add (pair_of j)

standing_on : (s j : ℕ) → standing (s * 4 + j) ≡ s * 4 + standing j
standing_on s j =
    let quotient : (s * 4 + j) / 4 ≡ s + j / 4 = omega arith in
    let remainder : (s * 4 + j) % 4 ≡ j % 4 = omega arith in
    ap₂ (λ a b. a * 4 + pair_of b) quotient remainder ∙ omega arith

pub standing-in : (t j : ℕ) → j < 4 → standing (t * 4 + j) ≡ t * 4 + pair_of j
standing-in t j h = standing_on t j ∙ ap (λ i. t * 4 + i) (standing-low j h)

-- a number of q slots stands in one of them
pub standing-fits : (q k : ℕ) → k < q * 4 → standing k < q * 4
standing-fits q k h = let inside = pair_of-fits (k % 4) (omega arith) in omega arith

-- chunk t of the first n
pub chunk_at : {A : Type 0} (k n : ℕ) (xs : List A) (t : ℕ) → t < n → get_or (first_chunks k n xs) t [] ≡ take k (drop (t * k) xs)
chunk_at k zero xs t h = absurd (omega arith)
chunk_at k (suc n) xs zero h = rw (zero-mul k)
chunk_at k (suc n) xs (suc t) h = chunk_at k n (drop k xs) t (omega arith) ∙ ap (λ l. take k l) (drop-drop (t * k) k xs ∙ rw (suc-mul t k) (ap (λ i. drop i xs) (omega arith)))

-- slot t of a payload, which is passed on as a part of it
abbrev pub slot_at : List ℕ → ℕ → List ℕ
slot_at payload t = take 8 (drop (t * 8) payload)

byte_in : (payload : List ℕ) (t i : ℕ) → i < 8 → get_or (slot_at payload t) i 0 ≡ get_or payload (t * 8 + i) 0
byte_in payload t i h = get_or-take 8 (drop (t * 8) payload) i 0 h ∙ get_or-drop (t * 8) payload i 0

pair-in : (payload : List ℕ) (t m : ℕ) → m < 4 → pair (slot_at payload t) m ≡ pair payload (t * 4 + m)
pair-in payload t m h =
    let first : t * 8 + m * 2 ≡ (t * 4 + m) * 2 = omega arith in
    let second : t * 8 + (m * 2 + 1) ≡ (t * 4 + m) * 2 + 1 = omega arith in
    ap₂ (λ a b. signed 16 (be (a ∷ b ∷ [])))
    (byte_in payload t (m * 2) (omega arith) ∙ ap (λ i. get_or payload i 0) first)
    (byte_in payload t (m * 2 + 1) (omega arith) ∙ ap (λ i. get_or payload i 0) second)

-- the numbers of slot t
abbrev pub slot_numbers : List ℕ → ℕ → List ℤ
slot_numbers payload t = tab 4 (slot_number (slot_at payload t))

-- the numbers slot by slot are the numbers of the payload
pub slot_by_slot : (n : ℕ) (payload : List ℕ) → tabs n (slot_numbers payload) ≡ tab (n * 4) (number payload)
slot_by_slot n payload =
    tabs-same n (slot_numbers payload) (λ t. tab 4 (λ j. number payload (t * 4 + j)))
    (λ t g. tab-same 4 (slot_number (slot_at payload t)) (λ j. number payload (t * 4 + j))
    (λ j h. pair-in payload t (pair_of j) (pair_of-fits j h) ∙ ap (pair payload) (sym (standing-in t j h))))
    ∙ sym (tab-parts n 4 (number payload))

-- the numbers of group t, of k numbers each, which are passed on as a part of all
abbrev pub group_at : ℕ → List ℤ → ℕ → List ℤ
group_at k audio t = take k (drop (t * k) audio)

-- group t of the first n numbers
pub group_of_first : (k n : ℕ) (audio : List ℤ) (t : ℕ) → t * k + k ≤ n → group_at k (take n audio) t ≡ group_at k audio t
group_of_first k n audio t inside = ap (λ l. take k l) (sym (between_is audio (t * k) n)) ∙ take-take k (n - t * k) (drop (t * k) audio) (omega arith)

-- the bytes of group t, of q slots
abbrev pub slots_of : ℕ → List ℤ → ℕ → List ℕ
slots_of q audio t = pairs_from (q * 4) (group_at (q * 4) audio t)

-- the bytes group by group are the bytes of all
pub group_by_group : (n q : ℕ) (audio : List ℤ) → tabs n (slots_of q audio) ≡ pairs_from (n * (q * 4)) audio
unfolding pairs_from
group_by_group n q audio =
    let written : ℕ → List ℕ = λ m. pair_bytes (get_or audio (standing m) (pos 0)) in
    tabs-same n (slots_of q audio) (λ t. tabs (q * 4) (λ j. written (t * (q * 4) + j)))
    (λ t g. tabs-same (q * 4) (λ j. pair_bytes (get_or (group_at (q * 4) audio t) (standing j) (pos 0))) (λ j. written (t * (q * 4) + j))
    (λ j h.
    ap pair_bytes
    (get_or-take (q * 4) (drop (t * (q * 4)) audio) (standing j) (pos 0) (standing-fits q j h)
    ∙ get_or-drop (t * (q * 4)) audio (standing j) (pos 0)
    ∙ ap (λ i. get_or audio i (pos 0)) (rw (sym (mul_assoc t q 4)) (sym (standing_on (t * q) j))))))
    ∙ sym (tabs-groups n (q * 4) written)
