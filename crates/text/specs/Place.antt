-- The number that a text stands for. Assumes nothing.
use Rattle.std.specs.Prelude.{ℕ, ◌+◌, ◌-◌, ◌*◌, Bool, true, cond, ◌&&◌, Option, None, Some, List, [], ◌∷◌, leb, ltb}

-- every greater number counts as 1,000,000,000
unfoldable pub capped_of : ℕ → ℕ
capped_of n = cond (ltb n 1000000000) n 1000000000

abbrev pub decimal_digits : List ℕ → Bool
decimal_digits [] = true
decimal_digits (b ∷ s) = leb 0x30 b && leb b 0x39 && decimal_digits s

-- the number of decimal digits after those of n
abbrev pub digits_after : ℕ → List ℕ → ℕ
digits_after n [] = n
digits_after n (b ∷ s) = digits_after (n * 10 + (b - 0x30)) s

abbrev pub place_from : ℕ → List ℕ → Option ℕ
place_from n text = cond (decimal_digits text) (Some (capped_of (digits_after n text))) None

-- a text of decimal digits, at least one; every other is no number
unfoldable pub place_of : List ℕ → Option ℕ
place_of [] = None
place_of (b ∷ s) = place_from 0 (b ∷ s)
