-- Two's complement over half of the patterns, so that one law serves every width. Assumes nothing.
use mathlib.Core.Path.{◌≡◌, refl, sym, ap, ◌∙◌, subst⁻¹}
use mathlib.Core.Bool.{true, false, true≢false}
use Prim.Native.Nat.{ℕ, zero, suc, ◌+◌, ◌-◌, ◌*◌, ◌%◌, ◌<◌, ◌≤◌, suc-le-suc}
use native.Mathlib.Nat.{mod-eq_of_lt, mod-lt}
use native.Mathlib.Omega.{arith}
use borrow.Author.Tests.{ltb-true, ltb-false, lt-ltb, le-ltb}
use lib.Dec.{ltb}
use lib.IntN.{ℤ, pos, negsuc, ◌+ℤ◌, ◌-ℤ◌, ◌*ℤ◌}
use lib.Signed.{mag, lt_z}
use Rattle.wire.proofs.Cases.{by_order}
use Rattle.wire.specs.Numbers.{signed_by, unsigned_by, fits_by}

-- a signed number is the magnitude of its pattern, or one below its negative
pub not_below : (x : ℤ) → lt_z x (pos 0) ≡ false → x ≡ pos (mag x)
not_below (pos n) e = refl
not_below (negsuc n) e = absurd (true≢false e)

pub minus_one_less : (x : ℤ) → lt_z x (pos 0) ≡ true → negsuc 0 -ℤ x ≡ pos (mag x)
minus_one_less (pos n) e = let h = ltb-true n 0 e in absurd (omega arith)
minus_one_less (negsuc n) e =
    let low : ltb (suc n) 1 ≡ false = le-ltb (suc n) 1 (omega arith) in
    let same : suc n - 1 ≡ n = omega arith in
    rw low (rw same)

pub pattern_below : (whole : ℕ) (x : ℤ) → lt_z x (pos 0) ≡ true → whole - 1 - mag x % whole ≡ unsigned_by whole x
pattern_below whole (pos n) e = let h = ltb-true n 0 e in absurd (omega arith)
pattern_below whole (negsuc n) e = refl

pub pattern_above : (whole : ℕ) (x : ℤ) → lt_z x (pos 0) ≡ false → mag x % whole ≡ unsigned_by whole x
pattern_above whole (pos n) e = refl
pattern_above whole (negsuc n) e = absurd (true≢false e)

-- a pattern less the whole of them
pub less_whole : (n whole : ℕ) → n < whole → pos n -ℤ pos whole ≡ negsuc (whole - suc n)
less_whole n zero h = absurd (omega arith)
less_whole n (suc m) h = rw (lt-ltb n (suc m) h)

module _ (half n : ℕ) where
  pub below_half : n < half → signed_by half n ≡ pos n
  below_half h = rw (lt-ltb n half h)

  pub from-half : half ≤ n → signed_by half n ≡ pos n -ℤ pos (half + half)
  from-half h = rw (le-ltb n half h)

  module _ (h : n < half + half) where
    signed_low : half ≤ n → signed_by half n ≡ negsuc (half + half - suc n)
    signed_low p = from-half p ∙ less_whole n (half + half) h

    low_or_high : (P : ℤ → Type 0) → (n < half → P (pos n)) → (half ≤ n → P (negsuc (half + half - suc n))) → P (signed_by half n)
    low_or_high P low high = by_order n half (λ q. subst⁻¹ P (below_half q) (low q)) (λ q. subst⁻¹ P (signed_low q) (high q))

    pub signed_by_fits : mag (signed_by half n) < half
    signed_by_fits = low_or_high (λ z. mag z < half) (λ q. q) (λ q. omega arith)

    -- the two ways, over every pattern ..
    pub back_to_pattern : unsigned_by (half + half) (signed_by half n) ≡ n
    back_to_pattern =
        low_or_high (λ z. unsigned_by (half + half) z ≡ n) (λ q. mod-eq_of_lt h)
        (λ q. let r : half + half - suc n < half + half = omega arith in rw (mod-eq_of_lt r) (omega arith))

pub pattern_fits : (whole : ℕ) (z : ℤ) → 0 < whole → unsigned_by whole z < whole
pattern_fits whole (pos n) h = mod-lt n h
pattern_fits whole (negsuc n) h = omega arith

-- .. and over every number in range
pub back_to_number : (half : ℕ) (z : ℤ) → mag z < half → signed_by half (unsigned_by (half + half) z) ≡ z
back_to_number half (pos n) h = let r : n < half + half = omega arith in rw (mod-eq_of_lt r) (below_half half n h)
back_to_number half (negsuc n) h =
    let r : n < half + half = omega arith in
    let m : half + half - 1 - n < half + half = omega arith in
    let e : half + half - suc (half + half - 1 - n) ≡ n = omega arith in
    rw (mod-eq_of_lt r) (signed_low half (half + half - 1 - n) m (omega arith) ∙ ap negsuc e)

-- a number below the range, whose lower end is -(m + 1), and one that is not
pub under_range : (m : ℕ) (z : ℤ) → lt_z z (negsuc m) ≡ true → false ≡ fits_by (suc m) z
under_range m (pos n) e = absurd (true≢false (sym e))
under_range m (negsuc n) e = sym (le-ltb n (suc m) (ltb-true m n e))

pub over_range : (m : ℕ) (z : ℤ) → lt_z z (negsuc m) ≡ false → lt_z z (pos (suc m)) ≡ fits_by (suc m) z
over_range m (pos n) e = refl
over_range m (negsuc n) e = sym (lt-ltb n (suc m) (suc-le-suc (ltb-false m n e)))

-- a number in range, by its magnitude
pub fits-mag : (half : ℕ) (z : ℤ) → fits_by half z ≡ true → mag z < half
fits-mag half (pos n) e = ltb-true n half e
fits-mag half (negsuc n) e = ltb-true n half e

pub mag-fits : (half : ℕ) (z : ℤ) → mag z < half → fits_by half z ≡ true
mag-fits half (pos n) h = lt-ltb n half h
mag-fits half (negsuc n) h = lt-ltb n half h

-- a byte moved to the middle of its range, and back
pub middle : (a : ℕ) → a < 256 → pos ((a + 128) % 256) -ℤ pos 128 ≡ signed_by 128 a
middle a byte =
    by_order a 128
    (λ low. let moved : (a + 128) % 256 ≡ a + 128 = omega arith in let back : a + 128 - 128 ≡ a = omega arith in rw (moved, below_half 128 a low, le-ltb (a + 128) 128 (omega arith), back))
    (λ high. let moved : (a + 128) % 256 ≡ a - 128 = omega arith in
    rw (moved, from-half 128 a high, less_whole a 256 byte, less_whole (a - 128) 128 (omega arith)) (ap negsuc (omega arith)))

-- two bytes below one that has the sign
module _ (a r : ℕ) (byte : a < 256) (low : r < 65536) where
  high_times : (half-way : 128 ≤ a) → signed_by 128 a *ℤ pos 65536 ≡ negsuc ((256 - a) * 65536 - 1)
  high_times half-way =
      let times : suc (256 - suc a) * 65536 ≡ suc ((256 - a) * 65536 - 1) = omega arith in
      rw (from-half 128 a half-way, less_whole a 256 byte, times)

  pub high_and_low : signed_by 128 a *ℤ pos 65536 +ℤ pos r ≡ signed_by 0x80_0000 (a * 65536 + r)
  high_and_low =
      by_order a 128
      (λ below. rw (below_half 128 a below, below_half 0x80_0000 (a * 65536 + r) (omega arith)))
      (λ above.
      let under : ltb r (suc ((256 - a) * 65536 - 1)) ≡ true = lt-ltb r (suc ((256 - a) * 65536 - 1)) (omega arith) in
      rw (high_times above, under, from-half 0x80_0000 (a * 65536 + r) (omega arith), less_whole (a * 65536 + r) 0x100_0000 (omega arith)) (ap negsuc (omega arith)))

  pub times_fits : mag (signed_by 128 a *ℤ pos 65536) < 0x8000_0000
  times_fits = by_order a 128 (λ below. rw (below_half 128 a below) (omega arith)) (λ above. rw (high_times above) (omega arith))
