-- Document 01's calls of the stream through the door: its record as two slices, and the answer as its number. Assumes nothing.
use Rattle.std.specs.Prelude.{ℕ, cond, List, Result, Ok, Err}
use Rattle.std.proofs.lemmas.List.Edits.{sets}
use Rattle.wire.specs.Answers.{Accepted, number_of}
use Rattle.wire.specs.declared.Refusal.{Refusal}
use Rattle.stream.specs.Feed as Feed
use Rattle.stream.specs.Record.{fresh_of, sound_of}
use Rattle.cells.specs.Cells.{got, bad_state, kept}
use Rattle.stream_cells.specs.Stream.{lent, stream_of, counts_of}

-- what a call leaves of the record: the number returned, and both slices at exit
pub record Left : Type 0 where
  pub number : ℕ
  pub counts : List ℕ
  pub held : List ℕ

abbrev pub left : ℕ → List ℕ → List ℕ → Left
left k counts held = record { number = k; counts = counts; held = held }

unfoldable pub fresh_in : List ℕ → List ℕ → Left
fresh_in counts held =
    cond (lent counts held) (left 0 (sets counts 0 (counts_of fresh_of)) (sets held 0 fresh_of.held)) (left bad_state counts held)

unfoldable pub sound_in : List ℕ → List ℕ → ℕ
sound_in counts held = cond (lent counts held) (cond (sound_of (stream_of counts held)) 0 bad_state) bad_state

-- what a feed leaves
pub record Outcome : Type 0 where
  pub number : ℕ
  pub counts : List ℕ
  pub held : List ℕ
  pub output : List ℕ

abbrev pub gave : ℕ → List ℕ → List ℕ → List ℕ → Outcome
gave k counts held output = record { number = k; counts = counts; held = held; output = output }

-- the number of what a feed found, or of its refusal
abbrev pub got_by : Result ℕ Refusal → ℕ
got_by (Ok frames) = got (number_of Accepted) frames
got_by (Err refusal) = got (number_of (Err refusal)) 0

-- document 01's feed, of the record that the cells are
abbrev pub shown : List ℕ → List ℕ → Feed.Outcome → Outcome
shown counts held o =
    gave (got (number_of o.answer) o.frames) (kept o.answer (counts_of o.next) counts) (kept o.answer o.next.held held) o.output

unfoldable pub feed_in : List ℕ → List ℕ → List ℕ → List ℕ → Outcome
feed_in counts held piece output =
    cond (lent counts held) (shown counts held (Feed.feed_of (stream_of counts held) piece output)) (gave bad_state counts held output)
