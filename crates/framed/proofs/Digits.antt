-- Digits: each is the one that its arithmetic gives, and bytes have two, the higher first, whose values are the byte again. Assumes nothing.
use mathlib.Core.Path.{◌≡◌, refl, ap, ap₂, ◌∙◌}
use mathlib.Core.Bool.{true}
use mathlib.Core.List.{List, [], ◌∷◌, ◌++◌}
use Prim.Native.Nat.{ℕ, suc, ◌+◌, ◌*◌, ◌/◌, ◌%◌, ◌<◌, ◌≤◌}
use native.Mathlib.Numerals.{add-one}
use native.Mathlib.Omega.{arith}
use borrow.Author.Tests.{lt-ltb, le-ltb, ne_eqb}
use lib.ListN.{length, get_or, take}
use lib.Seq.{take-suc}
use Rattle.wire.specs.Numbers.{Bytes}
use Rattle.wire.proofs.Cases.{by_order}
use Rattle.hexline.specs.Digits.{value_of, all_digits, bytes_of_digits}
use Rattle.hexline.specs.Lines.{newline}
use Rattle.hexline.proofs.Split.{unbroken}
use Rattle.hexline.proofs.Values.{decimal_digit, letter_digit}
use Rattle.framed.specs.Hexadecimal.{digit_of, byte_digits, digits_of}

module _ (n : ℕ) where
  below_ten : n < 10 → digit_of n ≡ 0x30 + n
  unfolding digit_of
  below_ten below = rw (lt-ltb n 10 below)

  from_ten : 10 ≤ n → digit_of n ≡ 0x57 + n
  unfolding digit_of
  from_ten above = rw (le-ltb n 10 above)

  -- without a branch
  pub digit_sum : n < 16 → 0x30 + n + (n + 6) / 16 * 39 ≡ digit_of n
  digit_sum small = by_order n 10 (λ below. omega (arith, below_ten below)) (λ above. omega (arith, from_ten above))

  -- a digit stands for its number
  pub digit_value : n < 16 → value_of (digit_of n) ≡ n
  digit_value small =
      by_order n 10
      (λ below. rw (below_ten below) (decimal_digit (0x30 + n) (omega arith) (omega arith) ∙ omega arith))
      (λ above. rw (from_ten above) (letter_digit (0x57 + n) (omega arith) (omega arith) ∙ omega arith))

  -- and is no newline
  pub digit_no_newline : digit_of n ≡ newline → ⊥
  digit_no_newline e = by_order n 10 (λ below. omega (arith, below_ten below)) (λ above. omega (arith, from_ten above))

pub digits_append : (x y : List ℕ) → digits_of (x ++ y) ≡ digits_of x ++ digits_of y
digits_append [] y = refl
digits_append (b ∷ x) y = ap (λ l. byte_digits b ++ l) (digits_append x y)

pub digits-length : (s : List ℕ) → length (digits_of s) ≡ length s * 2
digits-length [] = refl
digits-length (b ∷ s) = omega (arith, digits-length s)

-- one byte more
pub digits_more : (s : List ℕ) (k : ℕ) → k < length s → digits_of (take (k + 1) s) ≡ digits_of (take k s) ++ byte_digits (get_or s k 0)
digits_more s k inside = rw (add-one k, take-suc s k 0 inside) (digits_append (take k s) (get_or s k 0 ∷ []))

pub digits-unbroken : (s : List ℕ) → unbroken (digits_of s) ≡ true
digits-unbroken [] = refl
digits-unbroken (b ∷ s) =
    rw (ne_eqb (digit_of (b / 16)) newline (digit_no_newline (b / 16)), ne_eqb (digit_of (b % 16)) newline (digit_no_newline (b % 16)))
    (digits-unbroken s)

pub digits_all : (s : List ℕ) → Bytes s → all_digits (digits_of s) ≡ true
digits_all [] small = refl
digits_all (b ∷ s) small =
    rw (digit_value (b / 16) (omega (arith, small 0)), digit_value (b % 16) (omega arith), lt-ltb (b / 16) 16 (omega (arith, small 0)), lt-ltb (b % 16) 16 (omega arith))
    (digits_all s (λ i. small (suc i)))

-- the bytes that the digits stand for
pub digits_back : (s : List ℕ) → Bytes s → bytes_of_digits (digits_of s) ≡ s
digits_back [] small = refl
digits_back (b ∷ s) small =
    rw (digit_value (b / 16) (omega (arith, small 0)), digit_value (b % 16) (omega arith))
    (ap₂ ◌∷◌ (omega arith) (digits_back s (λ i. small (suc i))))
