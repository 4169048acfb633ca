-- Document 01, "The listing program": lower-case hexadecimal digits, and the bytes that they stand for. Assumes nothing.
use Rattle.std.specs.Prelude.{ℕ, ◌+◌, ◌-◌, ◌*◌, Bool, true, cond, ◌&&◌, Option, None, Some, List, [], ◌∷◌, leb, ltb}

-- b is one of the bytes from `low` to `high`
abbrev pub among : ℕ → ℕ → ℕ → Bool
among low high b = leb low b && leb b high

-- `0` to `9` are 0x30 to 0x39, `a` to `f` are 0x61 to 0x66; every other byte, `A` to `F` too, is no digit and has 16
abbrev pub value_of : ℕ → ℕ
value_of b = cond (among 0x30 0x39 b) (b - 0x30) (cond (among 0x61 0x66 b) (b - 0x61 + 10) 16)

abbrev pub is_digit : ℕ → Bool
is_digit b = ltb (value_of b) 16

-- a digit's value, of a byte that is one
abbrev pub digit_in : ℕ → Option ℕ
digit_in b = cond (is_digit b) (Some (value_of b)) None

abbrev pub all_digits : List ℕ → Bool
all_digits [] = true
all_digits (b ∷ s) = is_digit b && all_digits s

-- two digits a byte, the higher first
abbrev pub bytes_of_digits : List ℕ → List ℕ
bytes_of_digits [] = []
bytes_of_digits (high ∷ []) = []
bytes_of_digits (high ∷ low ∷ s) = (value_of high * 16 + value_of low) ∷ bytes_of_digits s
