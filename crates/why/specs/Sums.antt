-- T-05: the reasons of all places of an input, added up. Assumes nothing.
use Rattle.std.specs.Prelude.{ℕ, zero, suc, ◌+◌, ◌*◌, ◌≡◌, Bool, true, false, cond, List, length}
use Rattle.reading.specs.Reading.{reading}
use Rattle.why.specs.declared.Reason.{Reason}
use Rattle.why.specs.declared.Reason.TheVariants.{NotGiven, Inside, Near, Far, Held}

abbrev pub is_inside : Reason → Bool
is_inside (Inside q) = true
is_inside NotGiven = false
is_inside (Near byte) = false
is_inside (Far byte) = false
is_inside Held = false

abbrev pub is_skipped : Reason → Bool
is_skipped (Near byte) = true
is_skipped (Far byte) = true
is_skipped NotGiven = false
is_skipped (Inside q) = false
is_skipped Held = false

abbrev pub is_held : Reason → Bool
is_held Held = true
is_held NotGiven = false
is_held (Inside q) = false
is_held (Near byte) = false
is_held (Far byte) = false

-- at how many of the first n places the reason told is of a kind
abbrev pub how_many : (Reason → Bool) → (ℕ → Reason) → ℕ → ℕ
how_many kind told zero = 0
how_many kind told (suc n) = how_many kind told n + cond (kind (told n)) 1 0

-- "those inside frames are 512 times the frames, those skipped are the reading's skipped count and those held are what it leaves"
pub record AddsUp (s : List ℕ) (told : ℕ → Reason) : Type 0 where
  pub inside_frames : how_many is_inside told (length s) ≡ 512 * (reading s).frames
  pub skipped : how_many is_skipped told (length s) ≡ (reading s).skipped
  pub held : how_many is_held told (length s) ≡ length (reading s).left
