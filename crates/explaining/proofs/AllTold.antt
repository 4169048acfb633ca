-- T-05: what the program prints for a place is a true reason, and for all places the lines of runs that are true of them. Assumes nothing.
use mathlib.Core.Path.{◌≡◌}
use mathlib.Core.Bool.{true, false}
use mathlib.Core.List.{List}
use Prim.Native.Nat.{ℕ, ◌<◌, ◌≤◌}
use borrow.Author.Tests.{le-ltb}
use lib.ListN.{length}
use Rattle.text.specs.Put.{written}
use Rattle.why.specs.Reasons.{IsTrueReason}
use Rattle.why.specs.Runs.{run_of, TrueRun}
use Rattle.why.specs.Why.{reason_of}
use Rattle.why.proofs.AllRuns.{Here, true_here}
use Rattle.why.proofs.Cases.{explains, place_too_far}
use Rattle.why.proofs.TrueReason.{reason_of_is_true}
use Rattle.sentences.specs.Run.{run_text, run_line_of, past_end_text, past_end_of}
use Rattle.sentences.proofs.Told.{run_told_lem}
use Rattle.explained.specs.Shown.{shown_text, shown_of}
use Rattle.explained.proofs.Told.{place_told_lem}
use Rattle.explaining.specs.Told.{place_told, run_told}

module _ (input : List ℕ) (short : length input ≤ 65536) (out : List ℕ) where
  -- a place of the input: the sentence and the windows for its true reason, whole
  pub place_is_told : (place : ℕ) → place < length input → 512 ≤ length out
      → IsTrueReason input place (reason_of input place) × (place_told input place out ≡ record { text = written (shown_text input place (reason_of input place)) out; answer = true })
  unfolding place_told shown_of
  place_is_told place inside room =
      let is_true = reason_of_is_true input place inside in
      (is_true, rw (explains input place (record { short = short; inside = inside }), le-ltb (length out) 512 room, place_told_lem input place (reason_of input place) short is_true))

  -- a place that it does not have: the line that says so, whole, and no answer
  pub none_is_told : (place : ℕ) → length input ≤ place → 128 ≤ length out
      → place_told input place out ≡ record { text = written (past_end_text (length input)) out; answer = false }
  unfolding place_told past_end_of
  none_is_told place past room = rw (place_too_far input place short past, le-ltb (length out) 128 room)

  -- a run from a place where one begins: its line, whole
  pub run_is_told : (start : ℕ) → Here input start → start < length input → 128 ≤ length out
      → TrueRun input start (run_of input start)
      × (run_told input start out ≡ record { text = written (run_text input start (run_of input start).end (run_of input start).reason) out; end = (run_of input start).end })
  unfolding run_told run_line_of
  run_is_told start here inside room =
      let is_true = true_here input start here inside in
      (is_true, rw (le-ltb (length out) 128 room, run_told_lem input start (run_of input start) short is_true))
