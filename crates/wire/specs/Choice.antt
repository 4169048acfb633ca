-- A choice by its code, as document 01 names choices in the order of their codes. Assumes nothing.
use Rattle.std.specs.Prelude.{ℕ, zero, suc}

-- the choice at a code, of four in the order of their codes, and of two
module _ {A : Type 0} where
  abbrev pub four : A → A → A → A → ℕ → A
  four a b c d zero = a
  four a b c d (suc zero) = b
  four a b c d (suc (suc zero)) = c
  four a b c d (suc (suc (suc n))) = d

  abbrev pub two : A → A → ℕ → A
  two a b zero = a
  two a b (suc n) = b
