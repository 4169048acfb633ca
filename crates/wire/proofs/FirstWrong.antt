-- The first place at which a test fails: "it fails there", and "nowhere before"; and the search for it, one after another. Assumes nothing.
use mathlib.Core.Path.{◌≡◌, ap, ◌∙◌}
use mathlib.Core.Bool.{Bool, true, false, true≢false}
use mathlib.Core.List.{List, [], ◌∷◌}
use Prim.Native.Nat.{ℕ, zero, suc, ◌+◌, ◌<◌, ◌≤◌}
use native.Mathlib.Nat.{le_of_suc-le-suc}
use native.Mathlib.Numerals.{add-one}
use native.Mathlib.Omega.{arith}
use lib.ListN.{length, get_or, drop, drop_of_length-le}
use lib.Seq.{drop-cons}
use Rattle.wire.proofs.Cases.{by_test}
use Rattle.wire.specs.Every.{every}
use Rattle.wire.specs.Places.{first_wrong}

none_below : {i : ℕ} → i < 0 → ⊥
none_below h = omega arith

module _ {A : Type 0} (right : A → Bool) where
  module _ (x : A) (xs : List A) where
    here : right x ≡ false → first_wrong right (x ∷ xs) ≡ 0
    here e = rw e

    later : right x ≡ true → first_wrong right (x ∷ xs) ≡ suc (first_wrong right xs)
    later e = rw e

  pub first_within : (xs : List A) → first_wrong right xs ≤ length xs
  first_within [] = omega arith
  first_within (x ∷ xs) =
      by_test (right x) (λ e. let fewer = first_within xs in rw (later x xs e) (omega (arith, fewer))) (λ e. rw (here x xs e) (omega arith))

  -- it is a place of the list, where the list does not pass as a whole
  pub first_inside : (xs : List A) → every right xs ≡ false → first_wrong right xs < length xs
  first_inside [] e = absurd (true≢false e)
  first_inside (x ∷ xs) e =
      by_test (right x)
      (λ passed. let fewer = first_inside xs (rw passed at e) in rw (later x xs passed) (omega (arith, fewer)))
      (λ failed. rw (here x xs failed) (omega arith))

  -- "it fails there"
  pub wrong_there : (xs : List A) (d : A) → every right xs ≡ false → right (get_or xs (first_wrong right xs) d) ≡ false
  wrong_there [] d e = absurd (true≢false e)
  wrong_there (x ∷ xs) d e =
      by_test (right x)
      (λ passed. rw (later x xs passed) (wrong_there xs d (rw passed at e)))
      (λ failed. rw (here x xs failed) failed)

  -- "and nowhere before"
  pub right_before : (xs : List A) (d : A) (i : ℕ) → i < first_wrong right xs → right (get_or xs i d) ≡ true
  right_before [] d i before = absurd (omega arith)
  right_before (x ∷ xs) d zero before =
      by_test (right x) (λ passed. passed) (λ failed. absurd (none_below (rw (here x xs failed) at before)))
  right_before (x ∷ xs) d (suc i) before =
      by_test (right x)
      (λ passed. right_before xs d i (le_of_suc-le-suc (rw (later x xs passed) at before)))
      (λ failed. absurd (none_below (rw (here x xs failed) at before)))

  -- i of the elements have been looked at, and none of them fails
  pub record Looked (xs : List A) (i : ℕ) : Type 0 where
    pub within : i ≤ length xs
    pub rest : i + first_wrong right (drop i xs) ≡ first_wrong right xs

  module _ (xs : List A) where
    pub none_looked : Looked xs 0
    none_looked = record { within = omega arith; rest = omega arith }

    module _ (i : ℕ) (looked : Looked xs i) where
      pub looked_all : length xs ≤ i → i ≡ first_wrong right xs
      looked_all end = let none : first_wrong right (drop i xs) ≡ 0 = ap (first_wrong right) (drop_of_length-le xs end) in omega (arith, none, looked.rest)

      module _ (d : A) (inside : i < length xs) where
        pub found_here : right (get_or xs i d) ≡ false → i ≡ first_wrong right xs
        found_here e =
            let at_once : first_wrong right (drop i xs) ≡ 0 = ap (first_wrong right) (drop-cons xs i d inside) ∙ here (get_or xs i d) (drop (suc i) xs) e in
            omega (arith, at_once, looked.rest)

        pub looked_further : right (get_or xs i d) ≡ true → Looked xs (i + 1)
        looked_further e =
            let step : first_wrong right (drop i xs) ≡ suc (first_wrong right (drop (suc i) xs)) =
            ap (first_wrong right) (drop-cons xs i d inside) ∙ later (get_or xs i d) (drop (suc i) xs) e in
            let moved : suc i + first_wrong right (drop (suc i) xs) ≡ i + first_wrong right (drop i xs) = omega (arith, step) in
            record { within = omega arith; rest = ap (λ k. k + first_wrong right (drop k xs)) (add-one i) ∙ moved ∙ looked.rest }
