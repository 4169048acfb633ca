-- T-05: of an input of up to 65,536 bytes something is said for each of its runs: what is true of it is never refused, and the byte that is named stands
-- in the input. Assumes nothing.
use mathlib.Core.Path.{◌≡◌, refl}
use mathlib.Core.Bool.{false}
use mathlib.Core.List.{List}
use Prim.Native.Nat.{ℕ, ◌+◌, ◌<◌, ◌≤◌}
use native.Mathlib.Omega.{arith}
use borrow.Author.Tests.{le-ltb, lt-leb}
use lib.ListN.{length}
use Rattle.reading.proofs.Readings.{good-long}
use Rattle.why.specs.Reasons.{IsTrueReason}
use Rattle.why.specs.Runs.{TrueRun}
use Rattle.why.specs.declared.Reason.{Reason}
use Rattle.why.specs.declared.Reason.TheVariants.{NotGiven, Inside, Near, Far, Held}
use Rattle.why.specs.declared.runs.Run.{Run}
use Rattle.sentences.specs.Run.{no_run}
use Rattle.sentences.specs.Sentence.{no_reason}

module _ (s : List ℕ) (p : ℕ) where
  -- the last byte that is named or shown as tested
  abbrev pub last_tested : Reason → ℕ
  last_tested NotGiven = p
  last_tested (Inside q) = q + 514
  last_tested (Near byte) = p + byte
  last_tested (Far byte) = p + (512 + byte)
  last_tested Held = p

  -- it stands in the input, and so does the place
  pub tested_inside : (reason : Reason) → IsTrueReason s p reason → (last_tested reason < length s) × (p < length s) × (no_reason p reason ≡ false)
  tested_inside NotGiven t = absurd t
  tested_inside (Inside q) t =
      let long = good-long s q t.begins in
      (omega arith, omega (arith, t.before_end), le-ltb p q t.from_start)
  tested_inside (Near byte) t =
      let few : byte < 3 = omega (arith, t.first_wrong.before_end) in
      (omega (arith, t.skips.remain), omega (arith, t.skips.remain), le-ltb 2 byte (omega arith))
  tested_inside (Far byte) t =
      let few : byte < 3 = omega (arith, t.first_wrong.before_end) in
      (omega (arith, t.skips.remain), omega (arith, t.skips.remain), le-ltb 2 byte (omega arith))
  tested_inside Held t = (t.inside, t.inside, refl)

pub run_told_lem : (s : List ℕ) (start : ℕ) (run : Run) → length s ≤ 65536 → TrueRun s start run → no_run s start run.end run.reason ≡ false
run_told_lem s start run fits t =
    rw (le-ltb 65536 (length s) fits, le-ltb (length s) run.end t.within, lt-leb run.end start t.some)
    (tested_inside s start run.reason t.first).2
