-- T-13: good frames in a row that no good frame from before reaches into, among bytes of any content, and where they come out. Assumes nothing.
use Rattle.std.specs.Prelude.{ℕ, ◌+◌, ◌-◌, ◌*◌, ◌<◌, ◌≤◌, ◌≡◌, true, false, List, ◌++◌, ◌⊎◌, length, take, drop}
use Rattle.reading.specs.Reading.{good, reading}
use Rattle.reading.specs.UpTo.{up_to, Comes, GoesPast}

-- place p begins the first of b good frames in a row, and none of the up to n places before it does: those from p - n, or 0, on
pub record Clear (n : ℕ) (s : List ℕ) (p b : ℕ) : Type 0 where
  pub some : 1 ≤ b
  pub in_a_row : (j : ℕ) → j < b → good s (p + 512 * j) ≡ true
  pub before : (k : ℕ) → p - n ≤ k → k < p → good s k ≡ false

-- the reading comes to p, and what is handed out is what it gave before p, the b frames from p on, and what it gave after them
pub record Found (s : List ℕ) (p b : ℕ) (handed : List ℕ) : Type 0 where
  pub comes : Comes s p
  pub handed_is : handed ≡ (up_to p s).handed ++ take (512 * b) (drop p s) ++ (reading (drop (p + 512 * b) s)).handed
  -- which frame p's is: the one behind as many
  pub which : length (up_to p s).handed ≡ 512 * (up_to p s).frames

-- p's frame is handed out, or another one, which begins before p and ends behind it
abbrev pub FoundOrOverlapped : List ℕ → ℕ → List ℕ → Type 0
FoundOrOverlapped s p handed = Found s p 1 handed ⊎ ((past : GoesPast s p) × Found s past.start 1 handed)
