-- Numbers as text. Assumes nothing.
use Rattle.std.specs.Prelude.{ℕ, zero, suc, ◌+◌, ◌/◌, ◌%◌, cond, List, [], ◌∷◌, ◌++◌, ltb}

-- n in groups of digits, of which there are at most as many as `k` says: a number below `base` is one group, as `first` writes it; of any
-- other the last group comes after the rest, as `later` writes it
unfoldable pub groups_in : ℕ → (ℕ → List ℕ) → (ℕ → List ℕ) → ℕ → ℕ → List ℕ
groups_in base first later zero n = []
groups_in base first later (suc k) n = cond (ltb n base) (first n) (groups_in base first later k (n / base) ++ later (n % base))

abbrev pub one_digit : ℕ → List ℕ
one_digit n = (0x30 + n) ∷ []

-- "in decimal": no zero stands in front
unfoldable pub decimal_of : ℕ → List ℕ
decimal_of n = groups_in 10 one_digit one_digit (suc n) n

-- a comma, and the three digits of a number below 1,000
abbrev pub three_of : ℕ → List ℕ
three_of n = 0x2c ∷ (0x30 + n / 100) ∷ (0x30 + n / 10 % 10) ∷ (0x30 + n % 10) ∷ []

-- in decimal, with a comma between groups of three digits
unfoldable pub commas : ℕ → List ℕ
commas n = groups_in 1000 decimal_of three_of (suc n) n

-- 0 to 9 are `0` to `9`, 0x30 to 0x39; 10 to 15 are `A` to `F`, 0x41 to 0x46
abbrev pub digit_of : ℕ → ℕ
digit_of n = cond (ltb n 10) (0x30 + n) (0x37 + n)

-- a byte in hexadecimal, the higher digit first
unfoldable pub hex_of : ℕ → List ℕ
hex_of b = digit_of (b / 16) ∷ digit_of (b % 16) ∷ []
