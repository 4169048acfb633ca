-- The value of a digit, range by range. Assumes nothing.
use mathlib.Core.Path.{◌≡◌}
use mathlib.Core.Bool.{true, false, and-false}
use Prim.Native.Nat.{ℕ, ◌+◌, ◌-◌, ◌<◌, ◌≤◌}
use native.Mathlib.Omega.{arith}
use borrow.Author.Tests.{le-leb, lt-leb}
use lib.Dec.{leb}
use Rattle.hexline.specs.Digits.{among, value_of}

module _ (low high b : ℕ) where
  inside : low ≤ b → b ≤ high → among low high b ≡ true
  inside from to = rw (le-leb _ _ from, le-leb _ _ to)

  above : high < b → among low high b ≡ false
  above over = rw (lt-leb _ _ over) (and-false (leb low b))

module _ (b : ℕ) where
  pub decimal_digit : 0x30 ≤ b → b ≤ 0x39 → value_of b ≡ b - 0x30
  decimal_digit from to = rw (inside 0x30 0x39 b from to)

  pub letter_digit : 0x61 ≤ b → b ≤ 0x66 → value_of b ≡ b - 0x61 + 10
  letter_digit from to = rw (above 0x30 0x39 b (omega arith), inside 0x61 0x66 b from to)
