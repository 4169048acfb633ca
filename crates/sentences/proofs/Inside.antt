-- What the calls answer is inside the slice that was lent. Assumes nothing.
use mathlib.Core.Path.{◌≡◌}
use mathlib.Core.Bool.{◌||◌}
use mathlib.Core.List.{List}
use Prim.Native.Nat.{ℕ, ◌≤◌}
use lib.Dec.{ltb}
use lib.ListN.{length}
use Rattle.text.specs.Put.{gave}
use Rattle.text.proofs.Puts.{cond-inside}
use Rattle.why.specs.declared.runs.Run.{Run}
use Rattle.sentences.specs.Run.{no_run, run_text, run_line_of, past_end_text, past_end_of}

pub run_inside : (input : List ℕ) (start : ℕ) (run : Run) (out : List ℕ) (r : ℕ) (after : List ℕ) → gave r after ≡ run_line_of input start run out → r ≤ length after
unfolding run_line_of
run_inside input start run out =
    cond-inside (ltb (length out) 128 || no_run input start run.end run.reason) (run_text input start run.end run.reason) out

pub past_inside : (n : ℕ) (out : List ℕ) (r : ℕ) (after : List ℕ) → gave r after ≡ past_end_of n out → r ≤ length after
unfolding past_end_of
past_inside n out = cond-inside (ltb (length out) 128) (past_end_text n) out
