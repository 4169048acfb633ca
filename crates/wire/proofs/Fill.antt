-- A loop that writes values over a slice from a place on: how far it is, where it begins, a value more, and its end. Assumes nothing.
use mathlib.Core.Path.{◌≡◌, refl, sym, ap, ◌∙◌}
use mathlib.Core.List.{List}
use Prim.Native.Nat.{ℕ, ◌+◌, ◌<◌, ◌≤◌}
use native.Mathlib.Omega.{arith}
use lib.ListN.{length, set, length-set, take-append-drop}
use Rattle.wire.specs.Lists.{over_at}
use Rattle.wire.proofs.Lists.{over_at-more}

-- j of the n values stand over xs₀ from `at` on, and there is room for all of them
pub record Filled {A : Type 0} (at n : ℕ) (f : ℕ → A) (xs₀ : List A) (j : ℕ) (xs : List A) : Type 0 where
  pub within : j ≤ n
  pub room : at + n ≤ length xs₀
  pub long : length xs ≡ length xs₀
  pub filled : xs ≡ over_at at j f xs₀

module _ {A : Type 0} (at n : ℕ) (f : ℕ → A) (xs₀ : List A) where
  pub none_yet : at + n ≤ length xs₀ → Filled at n f xs₀ 0 xs₀
  none_yet h = record { within = omega arith; room = h; long = refl; filled = sym (take-append-drop at xs₀) }

  module _ (j : ℕ) (xs : List A) (so_far : Filled at n f xs₀ j xs) where
    pub one_more : (v : A) → j < n → v ≡ f j → Filled at n f xs₀ (j + 1) (set xs (at + j) v)
    one_more v below is =
        record {
          within = omega arith;
          room = so_far.room;
          long = length-set xs (at + j) v ∙ so_far.long;
          filled = rw (so_far.filled, is) (over_at-more at j f xs₀ (omega (arith, so_far.room)));
        }

    pub all_filled : n ≤ j → xs ≡ over_at at n f xs₀
    all_filled end = let last : j ≡ n = omega (arith, so_far.within) in so_far.filled ∙ ap (λ k. over_at at k f xs₀) last
