-- A proof by cases on a test, or on which of two numbers is the lower. Assumes nothing.
use mathlib.Core.Path.{◌≡◌, refl}
use mathlib.Core.Bool.{Bool, true, false, cond, ◌&&◌, ◌||◌, true≢false, false≢true}
use Prim.Native.Nat.{ℕ, ◌<◌, ◌≤◌}
use borrow.Author.Tests.{ltb-true, ltb-false}
use lib.Dec.{ltb}

module _ {P : Type 0} where
  pub by_test : (b : Bool) → (b ≡ true → P) → (b ≡ false → P) → P
  by_test true yes-it-is not-it = yes-it-is refl
  by_test false yes-it-is not-it = not-it refl

  pub by_order : (m n : ℕ) → (m < n → P) → (n ≤ m → P) → P
  by_order m n below above = by_test (ltb m n) (λ e. below (ltb-true m n e)) (λ e. above (ltb-false m n e))

-- what holds of both of a test's values holds of the one that it picks
pub either : {A : Type 0} (b : Bool) (P : A → Type 0) {x y : A} → P x → P y → P (cond b x y)
either true P p q = p
either false P p q = q

-- the two halves of a conjunction that holds, and of an alternative that does not
pub both_true : (a b : Bool) → a && b ≡ true → (a ≡ true) × (b ≡ true)
both_true true b e = (refl, e)
both_true false b e = absurd (false≢true e)

pub neither : (a b : Bool) → (a || b) ≡ false → (a ≡ false) × (b ≡ false)
neither true b e = absurd (true≢false e)
neither false b e = (refl, e)
