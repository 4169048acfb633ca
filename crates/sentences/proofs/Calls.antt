-- The calls' cases: an out that is too short, what the input does not have, and the line at the start of out. Assumes nothing.
use mathlib.Core.Path.{◌≡◌, ◌∙◌}
use mathlib.Core.Bool.{true, false, ◌||◌}
use mathlib.Core.List.{List}
use Prim.Native.Nat.{ℕ, ◌^◌, ◌<◌, ◌≤◌}
use native.Mathlib.Omega.{arith}
use borrow.Author.Tests.{ltb-false, leb-false, lt-ltb, le-ltb}
use lib.Dec.{leb, ltb}
use lib.ListN.{length}
use Rattle.wire.proofs.Cases.{neither}
use Rattle.text.specs.Put.{gave, put_of}
use Rattle.text.proofs.Puts.{put_start}
use Rattle.why.specs.declared.runs.Run.{Run}
use Rattle.sentences.specs.Run.{no_run, run_text, run_line_of, past_end_text, past_end_of}
use Rattle.sentences.specs.Sentence.{no_reason}
use Rattle.sentences.proofs.Lengths.{run_length, past_end_length}

-- ---- a run

module _ (input : List ℕ) (start : ℕ) (run : Run) where
  -- the run is the input's, and its first place can have the reason
  pub has-run : no_run input start run.end run.reason ≡ false → (start ≤ 65536) × (run.end ≤ 65536) × (no_reason start run.reason ≡ false)
  has-run has =
      let parts = neither (ltb 65536 (length input) || ltb (length input) run.end || leb run.end start) (no_reason start run.reason) has in
      let some = neither (ltb 65536 (length input) || ltb (length input) run.end) (leb run.end start) parts.0 in
      let within = neither (ltb 65536 (length input)) (ltb (length input) run.end) some.0 in
      let long = ltb-false 65536 (length input) within.0 in
      let inside = ltb-false (length input) run.end within.1 in
      (omega (arith, leb-false run.end start some.1), omega arith, parts.1)

  module _ (out : List ℕ) where
    pub run_short : length out < 128 → gave 0 out ≡ run_line_of input start run out
    unfolding run_line_of
    run_short less = rw (lt-ltb (length out) 128 less)

    module _ (room : 128 ≤ length out) where
      pub run_none : no_run input start run.end run.reason ≡ true → gave 0 out ≡ run_line_of input start run out
      unfolding run_line_of
      run_none none = rw (le-ltb (length out) 128 room, none)

      pub run-whole : {r : ℕ} {after : List ℕ} → no_run input start run.end run.reason ≡ false
          → gave r after ≡ put_of out 0 (run_text input start run.end run.reason) → gave r after ≡ run_line_of input start run out
      unfolding run_line_of
      run-whole has put =
          let known = has-run has in
          let fits = run_length start run.end known.0 known.1 input run.reason known.2 in
          rw (le-ltb (length out) 128 room, has) (put ∙ put_start out (run_text input start run.end run.reason) (omega arith))

-- ---- the line about an input's length

module _ (n : ℕ) (out : List ℕ) where
  pub past_short : length out < 128 → gave 0 out ≡ past_end_of n out
  unfolding past_end_of
  past_short less = rw (lt-ltb (length out) 128 less)

  pub past_whole : {r : ℕ} {after : List ℕ} → n < 2 ^ 64 → 128 ≤ length out → gave r after ≡ put_of out 0 (past_end_text n) → gave r after ≡ past_end_of n out
  unfolding past_end_of
  past_whole fits room put =
      let inside = past_end_length n fits in
      rw (le-ltb (length out) 128 room) (put ∙ put_start out (past_end_text n) (omega arith))
