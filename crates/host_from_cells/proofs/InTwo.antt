-- Cells tested in two parts, by the most that each may hold: what each part says of all. Assumes nothing.
use mathlib.Core.Path.{◌≡◌, refl, sym, ap, ◌∙◌}
use mathlib.Core.Bool.{Bool, true, false, ◌&&◌, and_assoc}
use mathlib.Core.List.{List, [], ◌∷◌}
use Prim.Native.Nat.{ℕ, zero, suc, ◌-◌, ◌≤◌}
use native.Mathlib.Omega.{arith}
use lib.Dec.{leb}
use lib.ListN.{length, take, drop, length-drop}
use lib.Seq.{take_all, length-take-le}
use Rattle.cells.specs.Cells.{within}
use Rattle.cells.proofs.Cases.{enough}

-- the mosts of the first n, and of the others
within_both : (n : ℕ) (most cells : List ℕ) → within most cells ≡ (within (take n most) cells && within (drop n most) (drop n cells))
within_both zero most cells = refl
within_both (suc n) [] cells = refl
within_both (suc n) (m ∷ most) [] = refl
within_both (suc n) (m ∷ most) (c ∷ cells) = ap (λ b. leb c m && b) (within_both n most cells) ∙ sym (and_assoc (leb c m) (within (take n most) cells) (within (drop n most) (drop n cells)))

module _ (n : ℕ) (most cells : List ℕ) {first : Bool} (tested : first ≡ within (take n most) cells) where
  pub long_enough : n ≤ length most → first ≡ true → n ≤ length cells
  long_enough some held = omega (arith, enough (take n most) cells (sym tested ∙ held), length-take-le n most some)

  -- where the first part holds the second decides
  pub second_decides : first ≡ true → {second : Bool} → second ≡ within (drop n most) (take (length cells - n) (drop n cells)) → second ≡ within most cells
  second_decides held is =
      is
      ∙ ap (within (drop n most)) (take_all (length cells - n) (drop n cells) (omega (arith, length-drop n cells)))
      ∙ sym (within_both n most cells ∙ ap (λ b. b && within (drop n most) (drop n cells)) (sym tested ∙ held))

  pub first-fails : first ≡ false → false ≡ within most cells
  first-fails failed = sym (within_both n most cells ∙ ap (λ b. b && within (drop n most) (drop n cells)) (sym tested ∙ failed))
