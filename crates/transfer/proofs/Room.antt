-- Room for the values of some frames, one frame's after another's, and the part of a slice from one of them on. Assumes nothing.
use mathlib.Core.Path.{◌≡◌, ap, ◌∙◌}
use mathlib.Core.List.{List, ◌++◌, append-nil}
use Prim.Native.Nat.{ℕ, ◌+◌, ◌-◌, ◌*◌, ◌<◌, ◌≤◌}
use native.Mathlib.Nat.{mul-le-mul_right, suc-mul, le_trans}
use native.Mathlib.Omega.{arith}
use borrow.Rule.Slice.PartMut.{put_mid, Post-is}
use lib.ListN.{length, take, drop, length-drop}
use lib.Seq.{take_all, drop-length}

-- eight frames of up to 504 values
pub few_in_all : (frames values : ℕ) → frames ≤ 8 → values ≤ 504 → frames * values ≤ 4032
few_in_all frames values few most = le_trans (mul-le-mul_right values few) (omega arith)

-- the values of frame k end within those of all frames
pub part_inside : (k frames values room : ℕ) → k < frames → frames * values ≤ room → k * values + values ≤ room
part_inside k frames values room below all = rw (← suc-mul k values) (le_trans (mul-le-mul_right values below) all)

-- the place where they begin, in a slice that has room for those of all frames
pub record Starts (k values room : ℕ) : Type 0 where
  pub early : k * values ≤ 4032
  pub inside : k * values ≤ room

pub starts : (k frames values room : ℕ) → k < frames → frames ≤ 8 → values ≤ 504 → frames * values ≤ room → Starts k values room
starts k frames values room below few most all =
    let within = part_inside k frames values (frames * values) below (omega arith) in
    record { early = omega (arith, few_in_all frames values few most, within); inside = omega (arith, within) }

module _ {A : Type 0} (at : ℕ) (xs : List A) (inside : at ≤ length xs) where
  -- all from a place on, lent and given back
  pub rest_lent : take (length xs - at) (drop at xs) ≡ drop at xs
  rest_lent = take_all (length xs - at) (drop at xs) (omega (arith, length-drop at xs))

  pub rest_back : (ys : List A) → put_mid at (length xs - at) xs ys ≡ take at xs ++ ys
  rest_back ys = ap (λ l. take at xs ++ (ys ++ l)) (Post-is at (length xs) xs inside ∙ drop-length xs) ∙ ap (λ l. take at xs ++ l) (append-nil ys)
