-- A test of every element, one after another; and a list whose every byte is 0. Assumes nothing.
use mathlib.Core.Path.{◌≡◌, refl, sym, ap, ap₂, ◌∙◌}
use mathlib.Core.Bool.{Bool, true, ◌&&◌, and_assoc, and-true}
use mathlib.Core.List.{List, [], ◌∷◌, ◌++◌}
use Prim.Native.Nat.{ℕ, zero, suc, ◌+◌, ◌<◌, ◌≤◌}
use native.Mathlib.Nat.{le_of_suc-le-suc}
use native.Mathlib.Numerals.{add-one}
use native.Mathlib.Omega.{arith}
use borrow.Author.Tests.{eqb-true}
use lib.Dec.{eqb}
use lib.ListN.{length, get_or, drop, replicate, drop_of_length-le}
use lib.Seq.{drop-cons}
use Rattle.wire.proofs.Cases.{by_order, both_true}
use Rattle.wire.specs.Lists.{tab}
use Rattle.wire.specs.Every.{every, all_zero}

module _ {A : Type 0} (test : A → Bool) where
  -- i of the elements have been tested, and what is left decides
  pub record Tested (xs : List A) (so_far : Bool) (i : ℕ) : Type 0 where
    pub within : i ≤ length xs
    pub rest : (so_far && every test (drop i xs)) ≡ every test xs

  module _ (xs : List A) where
    pub none_tested : Tested xs true 0
    none_tested = record { within = omega arith; rest = refl }

    module _ (so_far : Bool) (i : ℕ) (tested : Tested xs so_far i) where
      pub one_tested_more : (d : A) → i < length xs → Tested xs (so_far && test (get_or xs i d)) (i + 1)
      one_tested_more d inside =
          record {
            within = omega arith;
            rest =
                ap (λ k. (so_far && test (get_or xs i d)) && every test (drop k xs)) (add-one i)
                ∙ and_assoc so_far _ _
                ∙ sym (ap (λ l. so_far && every test l) (drop-cons xs i d inside))
                ∙ tested.rest;
          }

      pub all_tested : length xs ≤ i → so_far ≡ every test xs
      all_tested end = sym (and-true so_far) ∙ sym (ap (λ l. so_far && every test l) (drop_of_length-le xs end)) ∙ tested.rest

  every_append : (x y : List A) → every test (x ++ y) ≡ every test x && every test y
  every_append [] y = refl
  every_append (a ∷ x) y = rw (every_append x y) (sym (and_assoc (test a) (every test x) (every test y)))

  -- what passes as a whole passes at each place
  pub every-at : (xs : List A) → every test xs ≡ true → (i : ℕ) (d : A) → i < length xs → test (get_or xs i d) ≡ true
  every-at [] all i d inside = absurd (omega arith)
  every-at (x ∷ xs) all zero d inside = (both_true (test x) (every test xs) all).0
  every-at (x ∷ xs) all (suc i) d inside = every-at xs (both_true (test x) (every test xs) all).1 i d (le_of_suc-le-suc inside)

  -- and the other way round, of values by index
  pub every-tab : (n : ℕ) (f : ℕ → A) → ((i : ℕ) → i < n → test (f i) ≡ true) → every test (tab n f) ≡ true
  every-tab zero f each = refl
  every-tab (suc n) f each = every_append (tab n f) (f n ∷ []) ∙ rw (every-tab n f (λ i h. each i (omega arith)), each n (omega arith))

pub zeros : (n : ℕ) → all_zero (replicate n 0) ≡ true
zeros zero = refl
zeros (suc n) = zeros n

pub zeros_are : (bytes : List ℕ) → all_zero bytes ≡ true → bytes ≡ replicate (length bytes) 0
zeros_are [] e = refl
zeros_are (b ∷ bs) e =
    let each = both_true (eqb b 0) (all_zero bs) e in
    ap₂ ◌∷◌ (eqb-true b 0 each.0) (zeros_are bs each.1)

-- a test of each number below another, which computes where that one is written out
abbrev pub all_below : ℕ → (ℕ → Bool) → Bool
all_below zero test = true
all_below (suc n) test = all_below n test && test n

pub below : (n : ℕ) (test : ℕ → Bool) → all_below n test ≡ true → (i : ℕ) → i < n → test i ≡ true
below zero test e i h = absurd (omega arith)
below (suc n) test e i h =
    let both = both_true (all_below n test) (test n) e in
    by_order i n (below n test both.0 i) (λ above. let last : i ≡ n = omega arith in rw last both.1)
