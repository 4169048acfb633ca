-- What a call returns has its three parts apart: the answer's number, what was found, and the place; and the two halves of a longer number. Assumes nothing.
use mathlib.Core.Path.{◌≡◌, subst⁻¹}
use Prim.Native.Nat.{ℕ, ◌+◌, ◌*◌, ◌/◌, ◌%◌, ◌^◌, ◌<◌}
use native.Mathlib.Omega.{arith}
use Rattle.wire.specs.Answers.{Answer, told, place_of}
use Rattle.wire.proofs.First.{few_numbers}
use Rattle.cells.specs.Cells.{got, Tells}

pub three_parts : (a : Answer) (found : ℕ) → found < 256 → Tells (got (told a) found) a found
three_parts a found few =
    let low = few_numbers a in
    record { number = omega (arith, low); found_is = omega (arith, low); place = omega (arith, low) }

-- and where an upper half stands above them, beside an answer that carries no place, both halves are apart
module _ (a : Answer) (found upper : ℕ) (placeless : place_of a ≡ 0) (few : found < 256) where
  abbrev returned : ℕ
  returned = got (told a) found + 2 ^ 32 * upper

  pub lower_half : Tells (returned % 2 ^ 32) a found
  lower_half =
      let low = few_numbers a in
      let is : returned % 2 ^ 32 ≡ got (told a) found = omega (arith, low, placeless) in
      subst⁻¹ (λ (k : ℕ). Tells k a found) is (three_parts a found few)

  pub upper_half : returned / 2 ^ 32 ≡ upper
  upper_half = let low = few_numbers a in omega (arith, low, placeless)
