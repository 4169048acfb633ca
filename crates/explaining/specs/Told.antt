-- What is printed for a place, and for a run. Assumes nothing.
use Rattle.std.specs.Prelude.{ℕ, Bool, true, false, cond, List, length, Ok, Err}
use Rattle.std.specs.declared.result.Result.{Result}
use Rattle.wire.specs.Answers.{accepts}
use Rattle.text.specs.Put.{Written, gave}
use Rattle.why.specs.Runs.{run_of}
use Rattle.why.specs.Why.{why_of}
use Rattle.sentences.specs.Run.{run_line_of, past_end_of}
use Rattle.explained.specs.Shown.{shown_of}
use Rattle.explaining.specs.declared.Failure.{Failure}
use Rattle.explaining.specs.declared.Failure.TheVariants.{PastEnd}
use Rattle.explaining.specs.declared.Line.{Line}

-- a text at the start of a buffer, and whether it is the answer
pub record Saying : Type 0 where
  pub text : Written
  pub answer : Bool

-- of a place that is past the end the line says so, in place of an answer
abbrev pub complaint_of : Failure → List ℕ → Written
complaint_of (PastEnd length) out = past_end_of length out
complaint_of _ out = gave 0 out

abbrev pub told_in : Result ℕ Failure → List ℕ → Saying
told_in (Ok count) out = record { text = gave count out; answer = true }
told_in (Err failure) out = record { text = complaint_of failure out; answer = false }

-- the reason of the place with the bytes around it, or that the input has no such place
unfoldable pub place_told : List ℕ → ℕ → List ℕ → Saying
place_told input place out =
    cond (accepts (why_of input place).answer) (record { text = shown_of input place (why_of input place).reason out; answer = true })
    (record { text = past_end_of (length input) out; answer = false })

-- the line of a run, and where the run ends
pub record RunTold : Type 0 where
  pub text : Written
  pub end : ℕ

abbrev pub line_in : Line → List ℕ → RunTold
line_in line out = record { text = gave line.count out; end = line.end }

unfoldable pub run_told : List ℕ → ℕ → List ℕ → RunTold
run_told input start out = record { text = run_line_of input start (run_of input start) out; end = (run_of input start).end }
