-- A reading as far as a place, and the places that it comes to and goes past. Assumes nothing.
use Rattle.std.specs.Prelude.{ℕ, ◌+◌, ◌*◌, ◌<◌, ◌≡◌, true, List, take}
use Rattle.reading.specs.Reading.{good, Reading, reading}

-- What the reading of s gives at the places before p: of its first p + 514 bytes fewer than 515 remain from p on.
abbrev pub up_to : ℕ → List ℕ → Reading
up_to p s = reading (take (p + 514) s)

-- It comes to p: the frames handed out and the bytes skipped before p end there.
pub record Comes (s : List ℕ) (p : ℕ) : Type 0 where
  pub end_is : 512 * (up_to p s).frames + (up_to p s).skipped ≡ p

-- It goes past p: it comes to a good frame that begins before p and ends behind it.
pub record GoesPast (s : List ℕ) (p : ℕ) : Type 0 where
  pub start : ℕ
  pub comes : Comes s start
  pub begins : good s start ≡ true
  pub before : start < p
  pub behind : p < start + 512
