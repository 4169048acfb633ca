-- T-05: a recording as runs of frames handed out, of bytes skipped, and what is held. Assumes nothing.
use Rattle.std.specs.Prelude.{ℕ, zero, suc, ◌+◌, ◌-◌, ◌*◌, ◌/◌, ◌%◌, ◌<◌, ◌≤◌, ◌≡◌, ◌⊎◌, Bool, true, cond, ◌&&◌, List, [], ◌∷◌, leb, ltb, length}
use Rattle.std.specs.Bool.{beq}
use Rattle.reading.specs.Reading.{good}
use Rattle.reading.specs.UpTo.{Comes}
use Rattle.why.specs.Reasons.{InFrame, Skips, IsHeld, IsTrueReason}
use Rattle.why.specs.Sums.{is_inside}
use Rattle.why.specs.Why.{skipped_for}
use Rattle.why.specs.declared.Reason.{Reason}
use Rattle.why.specs.declared.Reason.TheVariants.{NotGiven, Inside, Near, Far, Held}
use Rattle.why.specs.declared.runs.Run.{Run}

-- at p at least 515 bytes remain, and a good frame begins there, or none, as it is said
abbrev pub does : List ℕ → Bool → ℕ → Bool
does s begins p = leb (p + 515) (length s) && beq (good s p) begins

-- "go on 512; otherwise skip one byte"
abbrev pub step_by : Bool → ℕ
step_by begins = cond begins 512 1

-- where that stops; as many steps as there are bytes are enough
abbrev pub stops_in : ℕ → List ℕ → Bool → ℕ → ℕ
stops_in zero s begins p = p
stops_in (suc n) s begins p = cond (does s begins p) (stops_in n s begins (p + step_by begins)) p

unfoldable pub run_end : List ℕ → Bool → ℕ → ℕ
run_end s begins p = stops_in (length s) s begins p

abbrev pub held_up_to : ℕ → Run
held_up_to end = record { reason = Held; end = end }

abbrev pub going_of : List ℕ → ℕ → Run
going_of s p = record { reason = cond (good s p) (Inside p) (skipped_for s p); end = run_end s (good s p) p }

-- the run that begins at a place to which the reading comes: its first reason, and where it ends
unfoldable pub run_of : List ℕ → ℕ → Run
run_of s p = cond (ltb (length s) (p + 515)) (held_up_to (length s)) (going_of s p)

-- a place is as a run with a reason says of all its places: inside one of the frames handed out that follow directly on each other from its start
-- on, skipped, or held
abbrev pub Like : Reason → List ℕ → ℕ → Type 0
Like NotGiven s p = ⊥
Like (Inside start) s p = InFrame s p (start + 512 * ((p - start) / 512))
Like (Near byte) s p = Skips s p
Like (Far byte) s p = Skips s p
Like Held s p = IsHeld s p

-- A run is true of an input from a place on: its reason is true of its first place, all its places are alike, the one behind it is not, and frames are
-- in it whole. Behind it the input ends, or the next run begins.
pub record TrueRun (s : List ℕ) (start : ℕ) (run : Run) : Type 0 where
  pub some : start < run.end
  pub within : run.end ≤ length s
  pub first : IsTrueReason s start run.reason
  pub all_alike : (p : ℕ) → start ≤ p → p < run.end → Like run.reason s p
  pub no_longer : Like run.reason s run.end → ⊥
  pub whole_frames : is_inside run.reason ≡ true → (run.end - start) % 512 ≡ 0
  pub next : (run.end ≡ length s) ⊎ Comes s run.end

-- runs one after another, from a place to the end of the input
abbrev pub RunsFrom : List ℕ → ℕ → List Run → Type 0
RunsFrom s start [] = length s ≤ start
RunsFrom s start (run ∷ runs) = (start < length s) × (run ≡ run_of s start) × RunsFrom s run.end runs

-- a place is in one of them, and as that one says
abbrev pub ToldIn : List ℕ → ℕ → ℕ → List Run → Type 0
ToldIn s p start [] = ⊥
ToldIn s p start (run ∷ runs) = ((start ≤ p) × (p < run.end) × Like run.reason s p) ⊎ ToldIn s p run.end runs
