-- T-10: an input of up to 65,536 bytes, read at once. Assumes nothing.
use Rattle.std.specs.Prelude.{ℕ, ◌≤◌, cond, List, [], ◌∷◌, ◌++◌, ltb, length, drop, Result, Ok, Err}
use Rattle.wire.specs.Answers.{Answer, Accepted, Test, ◌gives◌, first, accepts}
use Rattle.wire.specs.declared.Refusal.{Refusal}
use Rattle.wire.specs.declared.Refusal.TheVariants.{Length, ShortBuffer}
use Rattle.reading.specs.Reading.{Reading, reading}
use Rattle.plain.specs.declared.Plain.{Plain}

-- all that a call leaves: its answer, the frames it handed out, the bytes it skipped, how many are left at the end of the input, and the
-- lent output as it returns
pub record Outcome : Type 0 where
  pub answer : Answer
  pub frames : ℕ
  pub skipped : ℕ
  pub left : ℕ
  pub output : List ℕ

-- "LENGTH for a longer input, then SHORT_BUFFER for an output shorter than the input"
abbrev pub refusals : List ℕ → List ℕ → List Test
refusals input output =
    ltb 65536 (length input) gives Length
    ∷ ltb (length output) (length input) gives ShortBuffer
    ∷ []

-- "A refusal returns its number and ..; a frame count .. beside it is 0": so is each count here, and the output is the one given
abbrev pub refused : Answer → List ℕ → Outcome
refused refusal output = record { answer = refusal; frames = 0; skipped = 0; left = 0; output = output }

-- what the call gave, with the output as it returned
abbrev pub gave : Result Plain Refusal → List ℕ → Outcome
gave (Ok r) output = record { answer = Accepted; frames = r.frames; skipped = r.skipped; left = r.left; output = output }
gave (Err refusal) output = record { answer = Err refusal; frames = 0; skipped = 0; left = 0; output = output }

-- the frames stand at the start of the output, which keeps its remainder
abbrev pub accepted : Reading → List ℕ → Outcome
accepted r output =
    record {
      answer = Accepted;
      frames = r.frames;
      skipped = r.skipped;
      left = length r.left;
      output = r.handed ++ drop (length r.handed) output;
    }

abbrev pub outcome_of : Answer → List ℕ → List ℕ → Outcome
outcome_of answer input output = cond (accepts answer) (accepted (reading input) output) (refused answer output)

unfoldable pub plain_of : List ℕ → List ℕ → Outcome
plain_of input output = outcome_of (first (refusals input output)) input output

-- how large the counts of a call can be
pub record Few (frames skipped left : ℕ) : Type 0 where
  pub frames_few : frames ≤ 127
  pub skipped_few : skipped ≤ 65022
  pub left_few : left ≤ 514
