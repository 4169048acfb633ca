-- The 252 numbers through a payload and back, and a payload through its numbers and back. Assumes nothing.
use mathlib.Core.Path.{◌≡◌, refl, sym, ap, ap₂, ◌∙◌}
use mathlib.Core.List.{List, [], ◌∷◌, ◌++◌, append-nil}
use Prim.Native.Nat.{ℕ, zero, suc, ◌+◌, ◌*◌, ◌/◌, ◌%◌, ◌^◌, ◌<◌, ◌≤◌}
use native.Mathlib.Nat.{add-zero}
use native.Mathlib.Omega.{arith}
use lib.IntN.{ℤ, pos}
use lib.ListN.{length, get_or, take, drop, drop_of_length-le, get_or-append}
use lib.Seq.{drop-cons}
use Rattle.wire.proofs.Bytes.{sample_back, bytes_back}
use Rattle.wire.proofs.Lists.{tab-same, tab-get_or, length-tab, get_or-tab, tabs-same, get_or-tabs, parts}
use Rattle.wire.specs.Lists.{tab, tabs, over}
use Rattle.wire.specs.Numbers.{be, signed, Bytes, Samples16}
use Rattle.host_samples.proofs.Slots.{at_four, pair_of-fits, standing-in, standing-fits}
use Rattle.host_samples.specs.Samples.{pair_of, standing, pair, number, numbers, pair_bytes, pairs_from, payload_from}

-- who stands in whose place is mutual
pair_of-twice : (j : ℕ) → j < 4 → pair_of (pair_of j) ≡ j
pair_of-twice = at_four (λ j. pair_of (pair_of j) ≡ j) refl refl refl refl

standing-twice : (k : ℕ) → standing (standing k) ≡ k
standing-twice k =
    let inside : k % 4 < 4 = omega arith in
    standing-in (k / 4) (pair_of (k % 4)) (pair_of-fits (k % 4) inside) ∙ ap (λ j. k / 4 * 4 + j) (pair_of-twice (k % 4) inside) ∙ omega arith

-- pair m of a payload that was written
pair_written : (audio : List ℤ) (m : ℕ) → m < 252 → pair (payload_from audio) m ≡ signed 16 (be (pair_bytes (get_or audio (standing m) (pos 0))))
unfolding payload_from pairs_from
pair_written audio m h =
    let f : ℕ → List ℕ = λ n. pair_bytes (get_or audio (standing n) (pos 0)) in
    ap₂ (λ a b. signed 16 (be (a ∷ b ∷ [])))
    (ap (λ i. get_or (tabs 252 f) i 0) (sym (add-zero (m * 2))) ∙ get_or-tabs 2 f 252 m 0 0 (λ t g. refl) h (omega arith))
    (get_or-tabs 2 f 252 m 1 0 (λ t g. refl) h (omega arith))

pub number_back : (audio : List ℤ) → Samples16 audio → (k : ℕ) → k < 252 → number (payload_from audio) k ≡ get_or audio k (pos 0)
number_back audio fits k h =
    pair_written audio (standing k) (standing-fits 63 k h)
    ∙ ap (λ n. signed 16 (be (pair_bytes (get_or audio n (pos 0))))) (standing-twice k)
    ∙ sample_back 2 (2 ^ 15) refl (get_or audio k (pos 0)) (fits k)

-- the numbers that were written come back, in front of what the reader's slice had
pub numbers-back : (audio out : List ℤ) → Samples16 audio → 252 ≤ length audio → numbers (payload_from audio) out ≡ take 252 audio ++ drop 252 out
unfolding numbers
numbers-back audio out fits long =
    ap (λ l. l ++ drop 252 out)
    (tab-same 252 (number (payload_from audio)) (λ k. get_or audio k (pos 0)) (λ k h. number_back audio fits k h) ∙ tab-get_or 252 audio (pos 0) long)

two_bytes : {a b : ℕ} → a < 256 → b < 256 → Bytes (a ∷ b ∷ [])
two_bytes p q zero = p
two_bytes p q (suc zero) = q
two_bytes p q (suc (suc i)) = omega arith

-- pair m of a payload, as its two bytes
pair-bytes : (payload : List ℕ) (m : ℕ) → m * 2 + 2 ≤ length payload → Bytes payload → pair_bytes (pair payload m) ≡ take 2 (drop (m * 2) payload)
pair-bytes payload m fits bytes =
    let first : m * 2 < length payload = omega arith in
    let second : suc (m * 2) < length payload = omega arith in
    let next : m * 2 + 1 ≡ suc (m * 2) = omega arith in
    let two = get_or payload (m * 2) 0 ∷ get_or payload (m * 2 + 1) 0 ∷ [] in
    bytes_back 2 (2 ^ 15) refl two refl (two_bytes (bytes (m * 2)) (bytes (m * 2 + 1)))
    ∙ sym (rw (drop-cons payload (m * 2) 0 first, drop-cons payload (suc (m * 2)) 0 second, next))

-- a payload comes back from the numbers that were read from it
pub payload_back : (payload : List ℕ) (out : List ℤ) → Bytes payload → length payload ≡ 504 → 252 ≤ length out → payload_from (numbers payload out) ≡ payload
unfolding payload_from pairs_from numbers
payload_back payload out bytes long room =
    tabs-same 252 (λ m. pair_bytes (get_or (over 252 (number payload) out) (standing m) (pos 0))) (λ m. take 2 (drop (m * 2) payload))
    (λ m h.
    ap pair_bytes
    (get_or-append (tab 252 (number payload)) (drop 252 out) (pos 0) (standing m) (rw (length-tab 252 (number payload)) (standing-fits 63 m h))
    ∙ get_or-tab 252 (number payload) (standing m) (pos 0) (standing-fits 63 m h)
    ∙ ap (pair payload) (standing-twice m))
    ∙ pair-bytes payload m (omega arith) bytes)
    ∙ sym (append-nil (tabs 252 (λ m. take 2 (drop (m * 2) payload))))
    ∙ ap (λ l. tabs 252 (λ m. take 2 (drop (m * 2) payload)) ++ l) (sym (drop_of_length-le payload {i = 504} (omega arith)))
    ∙ parts 252 2 payload
