-- Document 01, "Words from the host", last paragraph, and "Nine refusals": what a build answers and leaves. Assumes nothing.
use Rattle.std.specs.Prelude.{ℕ, ◌+◌, cond, not, List, ◌∷◌, ◌++◌, eqb, ltb, ℤ, length, Result, Ok, Err}
use Rattle.wire.specs.Answers.{Answer, Accepted, Test, ◌gives◌, first, accepts}
use Rattle.wire.specs.declared.Refusal.{Refusal}
use Rattle.wire.specs.declared.Refusal.TheVariants.{BadState, Length, ShortBuffer}
use Rattle.host_record.specs.Record.{fresh}
use Rattle.host_samples.specs.Samples.{payload_from}
use Rattle.host_turn.specs.Sent.{head_of, ranges}
use Rattle.host_words.specs.Words.{last_word}
use Rattle.host.specs.declared.Builder.{Builder}

-- "A fresh one is what all-zero words give (one receiver), its turn 0"
abbrev pub fresh_builder : Builder
fresh_builder = record { host = fresh; turn = 0 }

-- T-07: "the turn runs 0 to 10", and document 01: "moves the turn on by one", the last going to 0
abbrev pub next_turn : ℕ → ℕ
next_turn turn = cond (eqb turn last_word) 0 (turn + 1)

-- in the order of the table; `room` is the length of the frame, `count` that of the sample slice
abbrev pub refusals : Builder → ℕ → ℕ → List Test
refusals b count room =
    ltb last_word b.turn gives BadState
    ∷ not (eqb room 512) gives Length
    ∷ ltb count 252 gives ShortBuffer
    ∷ ranges b.host

-- all that a caller has afterwards
pub record Outcome : Type 0 where
  pub answer : Answer
  pub builder : Builder
  pub frame : List ℕ

-- a refusal: the builder given, and the frame as it was
abbrev pub refused : Answer → Builder → List ℕ → Outcome
refused answer b frame = record { answer = answer; builder = b; frame = frame }

-- what the call on a builder gave, with the frame as it returned
abbrev pub gave : Builder → Result Builder Refusal → List ℕ → Outcome
gave b (Ok next) frame = record { answer = Accepted; builder = next; frame = frame }
gave b (Err refusal) frame = refused (Err refusal) b frame

-- the frame whose word is the turn's
abbrev pub frame_of : Builder → List ℤ → List ℕ
frame_of b audio = head_of b.turn b.host ++ payload_from audio

abbrev pub moved : Builder → Builder
moved b = record { host = b.host; turn = next_turn b.turn }

abbrev pub accepted : Builder → List ℤ → Outcome
accepted b audio = record { answer = Accepted; builder = moved b; frame = frame_of b audio }

abbrev pub outcome : Answer → Builder → List ℤ → List ℕ → Outcome
outcome answer b audio frame = cond (accepts answer) (accepted b audio) (refused answer b frame)

unfoldable pub build_of : Builder → List ℤ → List ℕ → Outcome
build_of b audio frame = outcome (first (refusals b (length audio) (length frame))) b audio frame
