-- Document 01, "The stream reader": one call. Assumes nothing.
use Rattle.std.specs.Prelude.{ℕ, ◌+◌, ◌^◌, not, cond, List, [], ◌∷◌, ◌++◌, ltb, length, drop, Result, Ok, Err}
use Rattle.wire.specs.Answers.{Answer, Accepted, Test, ◌gives◌, first, accepts}
use Rattle.wire.specs.declared.Refusal.{Refusal}
use Rattle.wire.specs.declared.Refusal.TheVariants.{BadState, Length, ShortBuffer, StreamFull}
use Rattle.reading.specs.Reading.{Reading, reading}
use Rattle.stream.specs.Record.{cells, sound_of, held_bytes}
use Rattle.stream.specs.declared.Stream.{Stream}
use Rattle.stream.specs.declared.Fed.{Fed}

-- all that a call leaves: its answer, the frames it handed out, the next record, and the lent output as it returns
pub record Outcome : Type 0 where
  pub answer : Answer
  pub frames : ℕ
  pub next : Stream
  pub output : List ℕ

-- what the call on a record gave, with the output as it returned
abbrev pub gave : Stream → Result Fed Refusal → List ℕ → Outcome
gave given (Ok r) output = record { answer = Accepted; frames = r.frames; next = r.next; output = output }
gave given (Err refusal) output = record { answer = Err refusal; frames = 0; next = given; output = output }

-- numbers 1, 3, 4 and 5 of "Nine refusals, in the order they are tested", by the lengths of the piece and of the output
abbrev pub refusals : Stream → ℕ → ℕ → List Test
refusals given piece output =
    not (sound_of given) gives BadState
    ∷ ltb 4096 piece gives Length
    ∷ ltb output 4096 gives ShortBuffer
    ∷ ltb (2 ^ 48) (given.total + piece) gives StreamFull
    ∷ []

-- "A refusal returns its number and .. the record given; a frame count .. beside it is 0"
abbrev pub refused : Answer → Stream → List ℕ → Outcome
refused refusal given output = record { answer = refusal; frames = 0; next = given; output = output }

-- the record after a reading of what it held and a piece, by the piece's length
abbrev pub after : Stream → ℕ → Reading → Stream
after given piece r =
    record {
      held = cells 514 r.left;
      count = length r.left;
      frames = given.frames + r.frames;
      skipped = given.skipped + r.skipped;
      total = given.total + piece;
    }

-- the frames stand at the start of the output, which keeps its remainder
abbrev pub accepted : Stream → ℕ → Reading → List ℕ → Outcome
accepted given piece r output =
    record {
      answer = Accepted;
      frames = r.frames;
      next = after given piece r;
      output = r.handed ++ drop (length r.handed) output;
    }

-- "The first that holds is the answer; otherwise the call succeeds (0)"
abbrev pub outcome_of : Answer → Stream → List ℕ → List ℕ → Outcome
outcome_of answer given piece output =
    cond (accepts answer) (accepted given (length piece) (reading (held_bytes given ++ piece)) output) (refused answer given output)

unfoldable pub feed_of : Stream → List ℕ → List ℕ → Outcome
feed_of given piece output = outcome_of (first (refusals given (length piece) (length output))) given piece output
