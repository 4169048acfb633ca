-- Where a run ends: step by step, and whatever its place. Assumes nothing.
use mathlib.Core.Path.{◌≡◌, refl, ◌∙◌}
use mathlib.Core.Bool.{Bool, true, false, cond, not, beq}
use mathlib.Core.List.{List}
use Prim.Native.Nat.{ℕ, zero, suc, ◌+◌, ◌<◌, ◌≤◌}
use native.Mathlib.Omega.{arith}
use borrow.Author.Tests.{lt-ltb, le-ltb, le-leb, lt-leb, not-true, not-false}
use lib.ListN.{length}
use Rattle.wire.proofs.Cases.{by_test}
use Rattle.reading.specs.Reading.{good}
use Rattle.why.specs.Runs.{does, step_by, stops_in, run_end, held_up_to, going_of, run_of}

-- a step is at least a byte, and at most a frame
pub some_step : (begins : Bool) → (1 ≤ step_by begins) × (step_by begins ≤ 512)
some_step true = (omega arith, omega arith)
some_step false = (omega arith, omega arith)

module _ (s : List ℕ) (begins : Bool) where
  pub does-nothing : (p : ℕ) → length s < p + 515 → does s begins p ≡ false
  does-nothing p few = rw (lt-leb (p + 515) (length s) few)

  enough : (m n p : ℕ) → length s ≤ p + m → length s ≤ p + n → stops_in m s begins p ≡ stops_in n s begins p
  enough zero zero p hm hn = refl
  enough zero (suc n) p hm hn = rw (does-nothing p (omega arith))
  enough (suc m) zero p hm hn = rw (does-nothing p (omega arith))
  enough (suc m) (suc n) p hm hn =
      let some = some_step begins in
      by_test (does s begins p) (λ on. rw (on, enough m n (p + step_by begins) (omega arith) (omega arith))) (λ stop. rw stop)

  -- one step more
  step_more : (p : ℕ) → run_end s begins p ≡ cond (does s begins p) (run_end s begins (p + step_by begins)) p
  unfolding run_end
  step_more p = enough (length s) (suc (length s)) p (omega arith) (omega arith)

  pub run_on : (p : ℕ) → does s begins p ≡ true → run_end s begins p ≡ run_end s begins (p + step_by begins)
  run_on p on = step_more p ∙ rw on

  pub run_stops : (p : ℕ) → does s begins p ≡ false → run_end s begins p ≡ p
  run_stops p stop = step_more p ∙ rw stop

  -- what a test of a place tells, where 515 bytes remain
  module _ (p : ℕ) (remain : p + 515 ≤ length s) where
    pub goes_on : not (beq (good s p) begins) ≡ false → run_end s begins p ≡ run_end s begins (p + step_by begins)
    goes_on same = run_on p (rw (le-leb (p + 515) (length s) remain) (not-false _ same))

    pub stops : not (beq (good s p) begins) ≡ true → run_end s begins p ≡ p
    stops other = run_stops p (rw (le-leb (p + 515) (length s) remain) (not-true _ other))

-- `run_of`, case by case
module _ (s : List ℕ) (p : ℕ) where
  pub run_held_lem : length s < p + 515 → run_of s p ≡ held_up_to (length s)
  unfolding run_of
  run_held_lem few = rw (lt-ltb (length s) (p + 515) few)

  pub run_going : p + 515 ≤ length s → run_of s p ≡ going_of s p
  unfolding run_of
  run_going remain = rw (le-ltb (length s) (p + 515) remain)
