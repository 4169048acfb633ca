-- A frame as a line of lower-case hexadecimal, as the listing program reads it. Assumes nothing.
use Rattle.std.specs.Prelude.{ℕ, ◌+◌, ◌*◌, ◌/◌, ◌%◌, cond, List, [], ◌∷◌, ◌++◌, ltb, take, drop}
use Rattle.hexline.specs.Printed.{ended}
use Rattle.wire.specs.Lists.{tabs}

-- 0 to 9 are `0` to `9`, 0x30 to 0x39; 10 to 15 are `a` to `f`, 0x61 to 0x66
unfoldable pub digit_of : ℕ → ℕ
digit_of n = cond (ltb n 10) (0x30 + n) (0x57 + n)

-- the higher digit first
abbrev pub byte_digits : ℕ → List ℕ
byte_digits b = digit_of (b / 16) ∷ digit_of (b % 16) ∷ []

-- two digits a byte
abbrev pub digits_of : List ℕ → List ℕ
digits_of [] = []
digits_of (b ∷ s) = byte_digits b ++ digits_of s

-- "one .. frame a line"
unfoldable pub line_of : List ℕ → List ℕ
line_of frame = ended (digits_of frame)

-- frame t of those that stand one after another in s
abbrev pub frame_at : List ℕ → ℕ → List ℕ
frame_at s t = take 512 (drop (t * 512) s)

-- the lines of the first n of them
unfoldable pub lines_of : ℕ → List ℕ → List ℕ
lines_of n s = tabs n (λ t. line_of (frame_at s t))
