-- The number that a text stands for, digit by digit, and the loop that reads it. Assumes nothing.
use mathlib.Core.Path.{◌≡◌, refl, sym, ap, ◌∙◌}
use mathlib.Core.Bool.{true}
use mathlib.Core.List.{List, [], ◌∷◌}
use Prim.Native.Nat.{ℕ, ◌+◌, ◌-◌, ◌*◌, ◌<◌, ◌≤◌, min}
use native.Mathlib.Numerals.{add-one}
use native.Mathlib.Omega.{arith}
use borrow.Author.Tests.{lt-ltb, le-ltb}
use lib.ListN.{length, get_or, drop}
use lib.Seq.{drop-cons, drop-length}
use Rattle.std.specs.Prelude.{Some, None}
use Rattle.wire.proofs.Cases.{by_order}
use Rattle.std.specs.Char.{is_ascii_digit}
use Rattle.text.specs.Place.{capped_of, digits_after, place_from, place_of}

abbrev most : ℕ
most = 1000000000

module _ (n : ℕ) where
  pub capped_below : n < most → capped_of n ≡ n
  unfolding capped_of
  capped_below below = rw (lt-ltb n most below)

  pub capped_above : most ≤ n → capped_of n ≡ most
  unfolding capped_of
  capped_above above = rw (le-ltb n most above)

  pub capped_most : capped_of n ≤ most
  capped_most = by_order n most (λ below. omega (arith, capped_below below)) (λ above. omega (arith, capped_above above))

  pub capped_min : capped_of n ≡ min n most
  capped_min = by_order n most (λ below. omega (arith, capped_below below)) (λ above. omega (arith, capped_above above))

  pub capped_same : n ≤ most → capped_of n ≡ n
  capped_same inside = by_order n most capped_below (λ above. omega (arith, capped_above above))

-- a number that counts as a lower one does so with more digits too
capped_on : (n d : ℕ) → capped_of (capped_of n * 10 + d) ≡ capped_of (n * 10 + d)
capped_on n d =
    by_order n most
    (λ below. rw (capped_below n below))
    (λ above. rw (capped_above n above, capped_above (n * 10 + d) (omega arith)) (capped_above (most * 10 + d) (omega arith)))

capped_digits : (n : ℕ) (s : List ℕ) → capped_of (digits_after (capped_of n) s) ≡ capped_of (digits_after n s)
capped_digits n [] = capped_same (capped_of n) (capped_most n)
capped_digits n (b ∷ s) =
    sym (capped_digits (capped_of n * 10 + (b - 0x30)) s)
    ∙ ap (λ m. capped_of (digits_after m s)) (capped_on n (b - 0x30))
    ∙ capped_digits (n * 10 + (b - 0x30)) s

-- The loop over a text, i bytes into it: what is left of the text, after the digits so far, stands for what all of it does.
pub record Reading (text : List ℕ) (n i : ℕ) : Type 0 where
  pub inside : i ≤ length text
  pub small : n ≤ most
  pub same : place_from n (drop i text) ≡ place_of text

pub reading_none : (text : List ℕ) → length text ≡ 0 → None ≡ place_of text
unfolding place_of
reading_none [] e = refl
reading_none (b ∷ s) e = absurd (omega arith)

pub reading_starts : (text : List ℕ) → (length text ≡ 0 → ⊥) → Reading text 0 0
unfolding place_of
reading_starts [] e = absurd (e refl)
reading_starts (b ∷ s) e = record { inside = omega arith; small = omega arith; same = refl }

module _ (text : List ℕ) (n i : ℕ) (so_far : Reading text n i) where
  pub reading_ends : length text ≤ i → Some n ≡ place_of text
  reading_ends over =
      let last : i ≡ length text = omega arith in
      ap Some (sym (capped_same n so_far.small)) ∙ ap (place_from n) (sym (ap (λ m. drop m text) last ∙ drop-length text)) ∙ so_far.same

  module _ (more : i < length text) where
    next : drop i text ≡ get_or text i 0 ∷ drop (i + 1) text
    next = rw (add-one i) (drop-cons text i 0 more)

    pub reading_digit : (m : ℕ) → is_ascii_digit (get_or text i 0) ≡ true → m ≡ min (n * 10 + (get_or text i 0 - 0x30)) most → Reading text m (i + 1)
    reading_digit m digit is =
        let capped : m ≡ capped_of (n * 10 + (get_or text i 0 - 0x30)) = is ∙ sym (capped_min _) in
        record {
          inside = omega arith;
          small = rw capped (capped_most _);
          same =
              rw capped (rw (capped_digits (n * 10 + (get_or text i 0 - 0x30)) (drop (i + 1) text))
              (rw (next, digit) at so_far.same));
        }
