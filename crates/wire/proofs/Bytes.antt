-- A number and its bytes, there and back, over the number of bytes; and parts of a list of bytes. Assumes nothing.
use mathlib.Core.Path.{◌≡◌, refl, sym, ap, ap₂, ◌∙◌}
use mathlib.Core.List.{List, [], ◌∷◌}
use Prim.Native.Nat.{ℕ, zero, suc, ◌+◌, ◌*◌, ◌/◌, ◌%◌, ◌^◌, ◌<◌}
use native.Mathlib.Nat.{mul_assoc, mul-add-div_right, mul-add-mod_self_right, mod-one, mod-eq_of_lt, pow-succ', one-le-pow}
use native.Mathlib.Omega.{arith}
use lib.Arith.{mod-mul, digits_lt, digits_div}
use lib.IntN.{ℤ}
use lib.ListN.{length, get_or, take, drop, length-take, get_or-eq_default}
use lib.Seq.{get_or-take, get_or-drop}
use lib.Signed.{mag}
use Rattle.wire.proofs.Cases.{by_order}
use Rattle.wire.proofs.Signed.{back_to_number, back_to_pattern, pattern_fits}
use Rattle.wire.specs.Numbers.{be, bytes_of, signed_by, unsigned_by, Bytes}

some_bytes : (k : ℕ) → 0 < 256 ^ k
some_bytes k = one-le-pow k 256 (omega arith)

pub length-bytes_of : (k n : ℕ) → length (bytes_of k n) ≡ k
length-bytes_of zero n = refl
length-bytes_of (suc k) n = ap suc (length-bytes_of k n)

pub bytes_fit : (k n i : ℕ) → get_or (bytes_of k n) i 0 < 256
bytes_fit zero n i = omega arith
bytes_fit (suc k) n zero = omega arith
bytes_fit (suc k) n (suc i) = bytes_fit k n i

pub be-fits : (bs : List ℕ) → Bytes bs → be bs < 256 ^ length bs
be-fits [] small = omega arith
be-fits (b ∷ bs) small = rw (pow-succ' 256 (length bs)) (digits_lt (small 0) (be-fits bs (λ i. small (suc i))))

pub be-bytes_of : (k n : ℕ) → be (bytes_of k n) ≡ n % 256 ^ k
be-bytes_of zero n = sym (mod-one n)
be-bytes_of (suc k) n =
    rw (length-bytes_of k n, be-bytes_of k n, pow-succ' 256 k) (sym (mod-mul n (omega arith) (some_bytes k)))

-- what stands above the lowest k bytes does not show in them
above_bytes : (k q n : ℕ) → bytes_of k (q * 256 ^ k + n) ≡ bytes_of k n
above_bytes zero q n = refl
above_bytes (suc k) q n =
    let shifted : q * 256 ^ suc k + n ≡ q * 256 * 256 ^ k + n = rw (pow-succ' 256 k) (ap (λ m. m + n) (sym (mul_assoc q 256 (256 ^ k)))) in
    let head : (q * 256 * 256 ^ k + n) / 256 ^ k % 256 ≡ n / 256 ^ k % 256 =
    rw (mul-add-div_right (some_bytes k) (q * 256) n) (mul-add-mod_self_right q 256 (n / 256 ^ k)) in
    rw shifted (ap₂ ◌∷◌ head (above_bytes k (q * 256) n))

pub bytes_of-be : (bs : List ℕ) → Bytes bs → bytes_of (length bs) (be bs) ≡ bs
bytes_of-be [] small = refl
bytes_of-be (b ∷ bs) small =
    let tail = be-fits bs (λ i. small (suc i)) in
    let head : (b * 256 ^ length bs + be bs) / 256 ^ length bs % 256 ≡ b = rw (digits_div b tail) (mod-eq_of_lt (small 0)) in
    ap₂ ◌∷◌ head (above_bytes (length bs) b (be bs) ∙ bytes_of-be bs (λ i. small (suc i)))

-- A sample of k bytes, there and back; `half` is half of the patterns.
module _ (k half : ℕ) (whole : half + half ≡ 256 ^ k) where
  pub sample_back : (z : ℤ) → mag z < half → signed_by half (be (bytes_of k (unsigned_by (half + half) z))) ≡ z
  sample_back z fits =
      let small : unsigned_by (half + half) z < half + half = pattern_fits (half + half) z (omega arith) in
      rw (be-bytes_of k (unsigned_by (half + half) z), ← whole, mod-eq_of_lt small) (back_to_number half z fits)

  pub bytes_back : (bs : List ℕ) → length bs ≡ k → Bytes bs → bytes_of k (unsigned_by (half + half) (signed_by half (be bs))) ≡ bs
  bytes_back bs long small =
      let low : be bs < half + half = rw (whole, ← long) (be-fits bs small) in
      rw (back_to_pattern half (be bs) low, ← long) (bytes_of-be bs small)

-- parts of a list of bytes
pub bytes_drop : (n : ℕ) (s : List ℕ) → Bytes s → Bytes (drop n s)
bytes_drop n s small i = rw (get_or-drop n s i 0) (small (n + i))

pub bytes_take : (n : ℕ) (s : List ℕ) → Bytes s → Bytes (take n s)
bytes_take n s small i =
    by_order i n
    (λ below. rw (get_or-take n s i 0 below) (small i))
    (λ above. rw (get_or-eq_default (take n s) 0 {n = i} (omega (arith, length-take n s))) (omega arith))
