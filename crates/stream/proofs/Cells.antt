-- Bytes at the start of cells that are zero past them: their parts, and writing them. Assumes nothing.
use mathlib.Core.Path.{◌≡◌, refl}
use mathlib.Core.List.{List}
use Prim.Native.Nat.{ℕ, zero, suc, ◌-◌, ◌≤◌}
use native.Mathlib.Nat.{zero-add}
use native.Mathlib.Omega.{arith}
use lib.ListN.{length, take, drop, replicate, length-append, length-replicate}
use lib.Seq.{take_at, drop_at, sets, sets-eq}
use Rattle.stream.specs.Record.{cells}

pub drop-replicate : (k n a : ℕ) → drop k (replicate n a) ≡ replicate (n - k) a
drop-replicate zero n a = let all : n - 0 ≡ n = omega arith in rw all
drop-replicate (suc k) zero a = let none : 0 - suc k ≡ 0 = omega arith in rw none
drop-replicate (suc k) (suc n) a = let less : suc n - suc k ≡ n - k = omega arith in rw less (drop-replicate k n a)

module _ (n : ℕ) (s : List ℕ) where
  pub length-cells : length s ≤ n → length (cells n s) ≡ n
  length-cells fits = rw (length-append s (replicate (n - length s) 0), length-replicate {A = ℕ} (n - length s) 0) (omega arith)

  pub take_cells : take (length s) (cells n s) ≡ s
  take_cells = take_at s (replicate (n - length s) 0) (length s) refl

  pub drop_cells : drop (length s) (cells n s) ≡ replicate (n - length s) 0
  drop_cells = drop_at s (replicate (n - length s) 0) (length s) refl

  -- written over cells that are all zero
  pub sets-zeros : length s ≤ n → sets (replicate n 0) 0 s ≡ cells n s
  sets-zeros fits =
      let zeros : length (replicate {A = ℕ} n 0) ≡ n = length-replicate n 0 in
      rw (sets-eq s (replicate n 0) 0 (omega arith), zero-add (length s), drop-replicate (length s) n 0)
