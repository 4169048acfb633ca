-- A loop that lays lists of one length over a slice, one after another: how far it is, where it begins, a list more, and its end.
-- Assumes nothing.
use mathlib.Core.Path.{◌≡◌, refl, sym, ap, ◌∙◌}
use mathlib.Core.List.{List}
use Prim.Native.Nat.{ℕ, ◌+◌, ◌*◌, ◌<◌, ◌≤◌}
use native.Mathlib.Numerals.{add-one}
use native.Mathlib.Omega.{arith}
use lib.ListN.{length}
use lib.Seq.{sets, length-sets}
use Rattle.wire.specs.Lists.{tabs}
use Rattle.wire.proofs.Lists.{length-tabs, sets-append}

-- j of the n lists, k elements each, stand over xs₀ from `at` on, and there is room for all of them
pub record Laid {A : Type 0} (at k n : ℕ) (f : ℕ → List A) (xs₀ : List A) (j : ℕ) (xs : List A) : Type 0 where
  pub within : j ≤ n
  pub room : at + n * k ≤ length xs₀
  pub long : length xs ≡ length xs₀
  pub laid : xs ≡ sets xs₀ at (tabs j f)

module _ {A : Type 0} (at k n : ℕ) (f : ℕ → List A) (xs₀ : List A) where
  pub none_laid : at + n * k ≤ length xs₀ → Laid at k n f xs₀ 0 xs₀
  none_laid h = record { within = omega arith; room = h; long = refl; laid = refl }

  module _ (each : (t : ℕ) → length (f t) ≡ k) (j : ℕ) (xs : List A) (so_far : Laid at k n f xs₀ j xs) where
    pub one_laid_more : (ys : List A) → j < n → ys ≡ sets xs (at + j * k) (f j) → Laid at k n f xs₀ (j + 1) ys
    one_laid_more ys below is =
        record {
          within = omega arith;
          room = so_far.room;
          long = ap length is ∙ length-sets xs (at + j * k) (f j) ∙ so_far.long;
          laid =
              is ∙ ap (λ l. sets l (at + j * k) (f j)) so_far.laid
              ∙ ap (λ m. sets (sets xs₀ at (tabs j f)) (at + m) (f j)) (sym (length-tabs k f j (λ t h. each t)))
              ∙ sets-append xs₀ at (tabs j f) (f j)
              ∙ ap (λ m. sets xs₀ at (tabs m f)) (sym (add-one j));
        }

    pub all_laid : n ≤ j → xs ≡ sets xs₀ at (tabs n f)
    all_laid end = let last : j ≡ n = omega (arith, so_far.within) in so_far.laid ∙ ap (λ m. sets xs₀ at (tabs m f)) last
