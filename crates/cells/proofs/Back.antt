-- A record put into cells and made of them again: a flag, and where the cells behind it stand. Assumes nothing.
use mathlib.Core.Path.{◌≡◌, refl}
use mathlib.Core.Bool.{Bool, true, false}
use mathlib.Core.List.{List, ◌++◌}
use Prim.Native.Nat.{ℕ, ◌+◌, ◌≤◌}
use native.Mathlib.Omega.{arith}
use lib.Dec.{eqb}
use lib.ListN.{length, drop}
use lib.Seq.{sets, sets-eq}
use mir.Val.{bool_byte}

pub flag_back : (b : Bool) → eqb (bool_byte b) 1 ≡ b
flag_back true = refl
flag_back false = refl

-- fields over the first cells are followed by what stood behind them
pub over : (fields cells : List ℕ) → length fields ≤ length cells → sets cells 0 fields ≡ fields ++ drop (0 + length fields) cells
over fields cells room = sets-eq fields cells 0 (omega arith)
