-- Cells tested one after another against the most that each may hold: how far the test is, and what it says at its end.
-- Assumes nothing.
use mathlib.Core.Path.{◌≡◌, refl, sym, ap, ap₂, ◌∙◌}
use mathlib.Core.Bool.{Bool, true, false, ◌&&◌, and_assoc, and-true, and-false}
use mathlib.Core.List.{List, [], ◌∷◌}
use Prim.Native.Nat.{ℕ, ◌+◌, ◌<◌, ◌≤◌}
use native.Mathlib.Numerals.{add-one}
use native.Mathlib.Omega.{arith}
use lib.Dec.{leb}
use lib.ListN.{length, get_or, drop, drop_of_length-le}
use lib.Seq.{drop-cons}
use Rattle.cells.specs.Cells.{within}

-- i of the cells have been tested, and what is left decides
pub record Tested (most cells : List ℕ) (so_far : Bool) (i : ℕ) : Type 0 where
  pub enough : length most ≤ length cells
  pub at : i ≤ length most
  pub rest : (so_far && within (drop i most) (drop i cells)) ≡ within most cells

pub too_few : (most cells : List ℕ) → length cells < length most → within most cells ≡ false
too_few [] cells h = absurd (omega arith)
too_few (m ∷ most) [] h = refl
too_few (m ∷ most) (c ∷ cells) h = rw (too_few most cells (omega arith)) (and-false (leb c m))

module _ (most cells : List ℕ) where
  pub none_tested : length most ≤ length cells → Tested most cells true 0
  none_tested h = record { enough = h; at = omega arith; rest = refl }

  module _ (so_far : Bool) (i : ℕ) (tested : Tested most cells so_far i) where
    pub one_tested_more : i < length most → Tested most cells (so_far && leb (get_or cells i 0) (get_or most i 0)) (i + 1)
    one_tested_more h =
        let c-below : i < length cells = omega (arith, tested.enough) in
        record {
          enough = tested.enough;
          at = omega arith;
          rest =
              ap (λ k. (so_far && leb (get_or cells i 0) (get_or most i 0)) && within (drop k most) (drop k cells)) (add-one i)
              ∙ and_assoc so_far _ _
              ∙ sym (ap₂ (λ ms cs. so_far && within ms cs) (drop-cons most i 0 h) (drop-cons cells i 0 c-below))
              ∙ tested.rest;
        }

    pub all_tested : length most ≤ i → so_far ≡ within most cells
    all_tested end = sym (and-true so_far) ∙ sym (ap (λ ms. so_far && within ms (drop i cells)) (drop_of_length-le most end)) ∙ tested.rest
