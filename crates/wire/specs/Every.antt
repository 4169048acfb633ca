-- A test that every element of a list passes: bytes that must be zero, and numbers that must fit. Assumes nothing.
use Rattle.std.specs.Prelude.{ℕ, Bool, true, ◌&&◌, List, [], ◌∷◌, eqb, ℤ}
use Rattle.wire.specs.Numbers.{fits}

abbrev pub every : {A : Type 0} → (A → Bool) → List A → Bool
every test [] = true
every test (x ∷ xs) = test x && every test xs

-- document 01's padding, and the cells of a stream record past what it holds
abbrev pub all_zero : List ℕ → Bool
all_zero bytes = every (λ b. eqb b 0) bytes

-- 24-bit samples that are to be written
abbrev pub all_fit : List ℤ → Bool
all_fit samples = every (fits 24) samples
