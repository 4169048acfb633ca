-- Demand 3's input: good frames in a row, bytes of which no place begins one, and good frames again. Assumes nothing.
use Rattle.std.specs.Prelude.{ℕ, ◌+◌, ◌*◌, ◌<◌, ◌≤◌, ◌≡◌, true, false, List, length}
use Rattle.reading.specs.Reading.{good}

-- a good frames from place 0, m bytes, and b good frames. The three bytes after the last are sync, since that frame is good.
pub record Damaged (s : List ℕ) (a m b : ℕ) : Type 0 where
  pub some : 1 ≤ b
  pub long : length s ≡ 512 * a + m + 512 * b + 3
  pub before : (i : ℕ) → i < a → good s (512 * i) ≡ true
  pub between : (k : ℕ) → k < m → good s (512 * a + k) ≡ false
  pub behind : (j : ℕ) → j < b → good s (512 * a + m + 512 * j) ≡ true
