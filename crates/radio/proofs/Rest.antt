-- The rest of a list from a place on, as the slice `&xs[k..]` has it: all that is left. Assumes nothing.
use mathlib.Core.Path.{◌≡◌}
use mathlib.Core.List.{List}
use Prim.Native.Nat.{ℕ, ◌-◌, ◌+◌, ◌≤◌}
use native.Mathlib.Omega.{arith}
use lib.Dec.{eqb}
use lib.ListN.{length, take, drop, length-drop}
use lib.Seq.{take_all}
use Rattle.wire.specs.Places.{first_other}
use Rattle.wire.proofs.FirstWrong.{first_within}

pub rest_whole : (xs : List ℕ) (k : ℕ) → take (length xs - k) (drop k xs) ≡ drop k xs
rest_whole xs k = take_all (length xs - k) (drop k xs) (rw (length-drop k xs) (omega arith))

-- a byte that is looked for from a place on is found before the end, or is the end
pub within_frame : (frame : List ℕ) (start : ℕ) → start ≤ length frame → start + first_other 0 (drop start frame) ≤ length frame
within_frame frame start inside =
    let within = rw (length-drop start frame) at (first_within (λ b. eqb b 0) (drop start frame)) in
    omega (arith, within)
