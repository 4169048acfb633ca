-- What is said of a place and of a run: the words that the calls left at the start of the buffer, and that they are inside it. Assumes nothing.
use mathlib.Core.Path.{◌≡◌, ap, ◌∙◌}
use mathlib.Core.List.{List}
use Prim.Native.Nat.{ℕ, ◌≤◌}
use borrow.Author.Tests.{ne_eqb}
use lib.ListN.{length}
use Rattle.wire.specs.Answers.{number_of}
use Rattle.wire.specs.declared.Refusal.{Refusal}
use Rattle.wire.proofs.First.{only_accepted}
use Rattle.text.specs.Put.{gave}
use Rattle.why.specs.Runs.{run_of}
use Rattle.why.specs.Why.{why_of, gave as why_gave}
use Rattle.why.specs.declared.Reason.{Reason}
use Rattle.why.specs.declared.runs.Run.{Run}
use Rattle.sentences.specs.Run.{run_line_of}
use Rattle.sentences.proofs.Inside.{run_inside}
use Rattle.explained.specs.Shown.{shown_of}
use Rattle.explaining.specs.Told.{told_in, place_told, RunTold, line_in, run_told}
use Rattle.explaining.specs.declared.Failure.TheVariants.{PastEnd}
use Rattle.explaining.specs.declared.Line.{Line}
use Rattle.std.specs.Prelude.{Ok, Err}

-- ---- a place

module _ (input : List ℕ) (place : ℕ) (out : List ℕ) where
  -- the reason that was found, in words
  pub reason-said : (reason : Reason) → why_gave (Ok reason) ≡ why_of input place → {after : List ℕ} {r : ℕ} → gave r after ≡ shown_of input place reason out
      → told_in (Ok r) after ≡ place_told input place out
  unfolding place_told
  reason-said reason is said = rw (← is, said)

  -- or that there is none
  pub none_said : (refusal : Refusal) → why_gave (Err refusal) ≡ why_of input place → told_in (Err (PastEnd (length input))) out ≡ place_told input place out
  unfolding place_told
  none_said refusal is = rw (← is, ne_eqb (number_of (Err refusal)) 0 (λ none. cc (only_accepted (Err refusal) none)))

-- ---- a run

module _ (input : List ℕ) (start : ℕ) (out : List ℕ) where
  pub line_said : (run : Run) → run ≡ run_of input start → {after : List ℕ} {r : ℕ} → gave r after ≡ run_line_of input start run out
      → (r ≤ length after) × (line_in (record { count = r; end = run.end }) after ≡ run_told input start out)
  unfolding run_told
  line_said run is {after} {r} said = (
    run_inside input start run out r after said,
    (λ i. record { text = (said ∙ ap (λ (o : Run). run_line_of input start o out) is) i; end = (is i).end }),
  )

  pub run_ends : (line : Line) (after : List ℕ) → line_in line after ≡ run_told input start out → line.end ≡ (run_of input start).end
  unfolding run_told
  run_ends line after is = ap (λ (t : RunTold). t.end) is
