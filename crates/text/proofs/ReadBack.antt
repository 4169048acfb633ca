-- The digits of a number are read back as that number. Assumes nothing.
use mathlib.Core.Path.{◌≡◌, refl, sym, ap, ◌∙◌}
use mathlib.Core.Bool.{true, ◌&&◌, and_assoc}
use mathlib.Core.List.{List, [], ◌∷◌, ◌++◌}
use Prim.Native.Nat.{ℕ, ◌+◌, ◌-◌, ◌*◌, ◌/◌, ◌%◌, ◌<◌}
use native.Mathlib.Omega.{arith}
use borrow.Author.Tests.{le-leb}
use lib.Dec.{leb}
use lib.ListN.{length, length-append}
use Rattle.std.specs.Prelude.{Some}
use Rattle.text.specs.Numbers.{decimal_of}
use Rattle.text.specs.Place.{capped_of, decimal_digits, digits_after, place_of}
use Rattle.text.proofs.Numbers.{by_groups, one_digit_lem, last_digit}
use Rattle.text.proofs.Places.{capped_below}

digits_append : (x y : List ℕ) → decimal_digits (x ++ y) ≡ decimal_digits x && decimal_digits y
digits_append [] y = refl
digits_append (b ∷ x) y = ap (λ t. leb 0x30 b && leb b 0x39 && t) (digits_append x y) ∙ sym (and_assoc (leb 0x30 b && leb b 0x39) (decimal_digits x) (decimal_digits y))

after_append : (n : ℕ) (x y : List ℕ) → digits_after n (x ++ y) ≡ digits_after (digits_after n x) y
after_append n [] y = refl
after_append n (b ∷ x) y = after_append (n * 10 + (b - 0x30)) x y

-- the text of n: some digits, which stand for n
record Digits (n : ℕ) (text : List ℕ) : Type 0 where
  some : 0 < length text
  digits : decimal_digits text ≡ true
  value : digits_after 0 text ≡ n

digits_of_lem : (n : ℕ) → Digits n (decimal_of n)
digits_of_lem =
    by_groups 10 (omega arith) (λ n. Digits n (decimal_of n))
    (λ n below.
    rw (one_digit_lem n below)
    (record { some = omega arith; digits = rw (le-leb 0x30 (0x30 + n) (omega arith), le-leb (0x30 + n) 0x39 (omega arith)); value = omega arith }))
    (λ n above rest.
    let last = 0x30 + n % 10 in
    rw (last_digit n above)
    (record {
      some = rw (length-append (decimal_of (n / 10)) (last ∷ [])) (omega arith);
      digits = rw (digits_append (decimal_of (n / 10)) (last ∷ []), rest.digits, le-leb 0x30 last (omega arith), le-leb last 0x39 (omega arith));
      value = after_append 0 (decimal_of (n / 10)) (last ∷ []) ∙ rw rest.value (omega arith);
    }))

place_of_digits : (n : ℕ) (text : List ℕ) → Digits n text → place_of text ≡ Some (capped_of n)
unfolding place_of
place_of_digits n [] d = absurd (omega (arith, d.some))
place_of_digits n (b ∷ s) d = rw d.digits (ap (λ m. Some (capped_of m)) d.value)

pub place_back : (n : ℕ) → place_of (decimal_of n) ≡ Some (capped_of n)
place_back n = place_of_digits n (decimal_of n) (digits_of_lem n)

-- below the cap, the number itself
pub number_back : (n : ℕ) → n < 1000000000 → place_of (decimal_of n) ≡ Some n
number_back n below = place_back n ∙ ap Some (capped_below n below)
