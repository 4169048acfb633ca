-- T-05: the reasons, by what is true of a place p under the reading of s from place 0. Assumes nothing.
use Rattle.std.specs.Prelude.{ℕ, ◌+◌, ◌<◌, ◌≤◌, ◌≡◌, true, false, List, length}
use Rattle.wire.specs.Places.{FirstNot}
use Rattle.wire.specs.Sync.{sync_at}
use Rattle.reading.specs.Reading.{good, reading}
use Rattle.reading.specs.UpTo.{Comes}
use Rattle.why.specs.declared.Reason.{Reason}
use Rattle.why.specs.declared.Reason.TheVariants.{NotGiven, Inside, Near, Far, Held}

-- "inside a frame handed out, with that frame's start": the reading comes to q, a good frame begins there, and p is one of its 512 bytes
pub record InFrame (s : List ℕ) (p q : ℕ) : Type 0 where
  pub comes : Comes s q
  pub begins : good s q ≡ true
  pub from_start : q ≤ p
  pub before_end : p < q + 512

-- the reading skips p: it comes to p, at least 515 bytes remain, and no good frame begins there
pub record Skips (s : List ℕ) (p : ℕ) : Type 0 where
  pub comes : Comes s p
  pub remain : p + 515 ≤ length s
  pub none : good s p ≡ false

-- "skipped because byte 0, 1 or 2 of the near sync is wrong (the first such)"
pub record NearWrong (s : List ℕ) (p byte : ℕ) : Type 0 where
  pub skips : Skips s p
  pub first_wrong : FirstNot 0x7f s p (p + 3) (p + byte)

-- "skipped because a byte of the far sync is wrong (the first such)": the near sync is right
pub record FarWrong (s : List ℕ) (p byte : ℕ) : Type 0 where
  pub skips : Skips s p
  pub near_right : sync_at s p ≡ true
  pub first_wrong : FirstNot 0x7f s (p + 512) (p + 512 + 3) (p + 512 + byte)

-- "or still held": p is one of the bytes at the end of s that the reading leaves
pub record IsHeld (s : List ℕ) (p : ℕ) : Type 0 where
  pub left : length s ≤ p + length (reading s).left
  pub inside : p < length s

-- a reason is true of a place
abbrev pub IsTrueReason : List ℕ → ℕ → Reason → Type 0
IsTrueReason s p NotGiven = ⊥
IsTrueReason s p (Inside q) = InFrame s p q
IsTrueReason s p (Near byte) = NearWrong s p byte
IsTrueReason s p (Far byte) = FarWrong s p byte
IsTrueReason s p Held = IsHeld s p

-- one reason is true of a place, and no other is
pub record ExactlyOne (s : List ℕ) (p : ℕ) : Type 0 where
  pub reason : Reason
  pub applies : IsTrueReason s p reason
  pub no_other : (other : Reason) → IsTrueReason s p other → other ≡ reason
