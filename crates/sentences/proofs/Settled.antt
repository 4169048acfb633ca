-- Any two outcomes that a call's contract admits coincide: the number of bytes, and the lent slice at exit. Assumes nothing.
use mathlib.Core.Path.{◌≡◌}
use mathlib.Core.List.{List}
use Prim.Native.Nat.{ℕ}
use Rattle.text.specs.Put.{gave}
use Rattle.text.proofs.Settled.{written_settled}
use Rattle.why.specs.declared.runs.Run.{Run}
use Rattle.sentences.specs.Run.{run_line_of, past_end_of}

pub run_settled : (input : List ℕ) (start : ℕ) (run : Run) (out : List ℕ) (r s : ℕ) (one other : List ℕ)
    → gave r one ≡ run_line_of input start run out → gave s other ≡ run_line_of input start run out → (r ≡ s) × (one ≡ other)
run_settled input start run out = written_settled (run_line_of input start run out)

pub past_settled : (n : ℕ) (out : List ℕ) (r s : ℕ) (one other : List ℕ) → gave r one ≡ past_end_of n out → gave s other ≡ past_end_of n out → (r ≡ s) × (one ≡ other)
past_settled n out = written_settled (past_end_of n out)
