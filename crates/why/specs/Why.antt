-- T-05: the reason that is given for a place of an input of up to 65,536 bytes. Assumes nothing.
use Rattle.std.specs.Prelude.{ℕ, ◌+◌, ◌-◌, ◌*◌, cond, List, [], ◌∷◌, leb, ltb, length, take, drop, Result, Ok, Err}
use Rattle.wire.specs.Answers.{Answer, Accepted, Test, ◌gives◌, first, accepts}
use Rattle.wire.specs.Places.{first_other}
use Rattle.wire.specs.Sync.{sync_at}
use Rattle.wire.specs.declared.Refusal.{Refusal}
use Rattle.wire.specs.declared.Refusal.TheVariants.{Length, Range}
use Rattle.reading.specs.Reading.{good}
use Rattle.reading.specs.UpTo.{up_to}
use Rattle.why.specs.declared.Reason.{Reason}
use Rattle.why.specs.declared.Reason.TheVariants.{NotGiven, Inside, Near, Far, Held}

-- the first of a sync's three bytes that is not 7F
abbrev pub wrong_byte : List ℕ → ℕ → ℕ
wrong_byte s p = first_other 0x7f (take 3 (drop p s))

-- of a place that begins no good frame: the near sync's wrong byte, or the far one's where the near sync is right
abbrev pub skipped_for : List ℕ → ℕ → Reason
skipped_for s p = cond (sync_at s p) (Far (wrong_byte s (p + 512))) (Near (wrong_byte s p))

-- of a place that the reading comes to
abbrev pub coming_to : List ℕ → ℕ → Reason
coming_to s p = cond (ltb (length s) (p + 515)) Held (cond (good s p) (Inside p) (skipped_for s p))

-- where the reading stands once it has gone on from every place before p: at p, behind it by a frame, or before it where it has ended
abbrev pub stands_at : List ℕ → ℕ → ℕ
stands_at s p = 512 * (up_to p s).frames + (up_to p s).skipped

unfoldable pub reason_of : List ℕ → ℕ → Reason
reason_of s p =
    cond (ltb p (stands_at s p)) (Inside (stands_at s p - 512))
    (cond (ltb (stands_at s p) p) Held (coming_to s p))

-- "LENGTH for a longer input, then RANGE, which here means a place not below its length"
abbrev pub refusals : List ℕ → ℕ → List Test
refusals input place =
    ltb 65536 (length input) gives Length
    ∷ leb (length input) place gives Range
    ∷ []

-- what a call gives: its answer, and the reason
pub record Why : Type 0 where
  pub answer : Answer
  pub reason : Reason

abbrev pub gave : Result Reason Refusal → Why
gave (Ok reason) = record { answer = Accepted; reason = reason }
gave (Err refusal) = record { answer = Err refusal; reason = NotGiven }

-- beside a refusal no reason is given
abbrev pub refused : Answer → Why
refused refusal = record { answer = refusal; reason = NotGiven }

abbrev pub accepted : Reason → Why
accepted reason = record { answer = Accepted; reason = reason }

abbrev pub outcome_of : Answer → Reason → Why
outcome_of answer reason = cond (accepts answer) (accepted reason) (refused answer)

unfoldable pub why_of : List ℕ → ℕ → Why
why_of input place = outcome_of (first (refusals input place)) (reason_of input place)
