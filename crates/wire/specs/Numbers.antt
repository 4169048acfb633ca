-- Document 01, "Frame and slots": numbers are big-endian, samples are two's complement. Assumes nothing.
use Rattle.std.specs.Prelude.{ℕ, zero, suc, ◌+◌, ◌-◌, ◌*◌, ◌/◌, ◌%◌, ◌^◌, ◌<◌, Bool, cond, List, [], ◌∷◌, ltb, ℤ, pos, negsuc, ◌-ℤ◌, length, get_or}
use Rattle.std.specs.Int.Signed.{mag}

-- the number of bytes, the highest first
abbrev pub be : List ℕ → ℕ
be [] = 0
be (b ∷ bs) = b * 256 ^ length bs + be bs

-- the lowest k bytes of a number, the highest first
abbrev pub bytes_of : ℕ → ℕ → List ℕ
bytes_of zero n = []
bytes_of (suc k) n = n / 256 ^ k % 256 ∷ bytes_of k n

-- two's complement over half of the patterns: those below it stand for themselves, n from it on for n less the whole
abbrev pub signed_by : ℕ → ℕ → ℤ
signed_by half n = cond (ltb n half) (pos n) (pos n -ℤ pos (half + half))

-- the number that n stands for in w bits
abbrev pub signed : ℕ → ℕ → ℤ
signed w n = signed_by (2 ^ (w - 1)) n

-- the pattern that stands for a number, among `whole` of them; `negsuc n` is -(n + 1)
abbrev pub unsigned_by : ℕ → ℤ → ℕ
unsigned_by whole (pos n) = n % whole
unsigned_by whole (negsuc n) = whole - 1 - n % whole

-- the w bits that stand for a number
abbrev pub unsigned : ℕ → ℤ → ℕ
unsigned w z = unsigned_by (2 ^ w) z

-- a number is in the range of two's complement: -half to half - 1
abbrev pub fits_by : ℕ → ℤ → Bool
fits_by half (pos n) = ltb n half
fits_by half (negsuc n) = ltb n half

-- a number is in the range of w bits
abbrev pub fits : ℕ → ℤ → Bool
fits w z = fits_by (2 ^ (w - 1)) z

-- every element of the list is a byte
abbrev pub Bytes : List ℕ → Type 0
Bytes s = (i : ℕ) → get_or s i 0 < 256

-- and every element of this one is a number of 16 bits
abbrev pub Samples16 : List ℤ → Type 0
Samples16 xs = (i : ℕ) → mag (get_or xs i (pos 0)) < 2 ^ 15
