-- T-05: the run from a place that the reading comes to is true of the input. Assumes nothing.
use mathlib.Core.Path.{◌≡◌, refl, sym, ap, subst, subst⁻¹, ◌∙◌}
use mathlib.Core.Bool.{Bool, true, false, cond, true≢false, false≢true, beq}
use mathlib.Core.Logic.{inl, inr}
use mathlib.Core.List.{List}
use Prim.Native.Nat.{ℕ, zero, suc, ◌+◌, ◌-◌, ◌*◌, ◌/◌, ◌%◌, ◌<◌, ◌≤◌}
use native.Mathlib.Omega.{arith}
use borrow.Author.Tests.{le-ltb, le-leb, leb-true}
use lib.Dec.{leb}
use lib.ListN.{length}
use Rattle.wire.proofs.Cases.{by_test, by_order, both_true, either}
use Rattle.wire.specs.Sync.{sync_at}
use Rattle.reading.specs.Reading.{good}
use Rattle.reading.specs.UpTo.{Comes}
use Rattle.reading.proofs.Readings.{good-long, counted}
use Rattle.reading.proofs.UpTo.{past_frame, past_byte, ends_here}
use Rattle.why.specs.Reasons.{InFrame, Skips, IsHeld, IsTrueReason}
use Rattle.why.specs.Runs.{does, step_by, run_end, held_up_to, going_of, run_of, Like, TrueRun}
use Rattle.why.specs.Sums.{is_inside}
use Rattle.why.specs.Why.{skipped_for, reason_of}
use Rattle.why.specs.declared.Reason.{Reason}
use Rattle.why.specs.declared.Reason.TheVariants.{Inside}
use Rattle.why.proofs.Reasons.{coming}
use Rattle.why.proofs.RunSteps.{some_step, does-nothing, run_on, run_stops, run_held_lem, run_going}
use Rattle.why.proofs.TrueReason.{reason_of_is_true}

same_test : (a b : Bool) → beq a b ≡ true → a ≡ b
same_test true true e = refl
same_test true false e = absurd (false≢true e)
same_test false true e = absurd (false≢true e)
same_test false false e = refl

test_of_itself : (b : Bool) → beq b b ≡ true
test_of_itself true = refl
test_of_itself false = refl

-- a place at which a run of frames, or of skipped bytes, from a start on can stand: after whole steps
record On (begins : Bool) (start p : ℕ) : Type 0 where
  pub from : start ≤ p
  pub steps : (p - start) % step_by begins ≡ 0

on_start : (begins : Bool) (start : ℕ) → On begins start start
on_start true start = record { from = omega arith; steps = omega arith }
on_start false start = record { from = omega arith; steps = omega arith }

on_next : (begins : Bool) (start p : ℕ) → On begins start p → On begins start (p + step_by begins)
on_next true start p on = record { from = omega (arith, on.from); steps = omega (arith, on.from, on.steps) }
on_next false start p on = record { from = omega (arith, on.from); steps = omega arith }

-- what a run of frames from a start on says of a place, and what a run of skipped bytes does
abbrev Going : Bool → List ℕ → ℕ → ℕ → Type 0
Going true s start p = InFrame s p (start + 512 * ((p - start) / 512))
Going false s start p = Skips s p

module _ (s : List ℕ) where
  remains : (begins : Bool) (p : ℕ) → does s begins p ≡ true → (p + 515 ≤ length s) × (good s p ≡ begins)
  remains begins p on =
      let both = both_true (leb (p + 515) (length s)) (beq (good s p) begins) on in
      (leb-true (p + 515) (length s) both.0, same_test (good s p) begins both.1)

  is_doing : (p : ℕ) → p + 515 ≤ length s → does s (good s p) p ≡ true
  is_doing p remain = rw (le-leb (p + 515) (length s) remain) (test_of_itself (good s p))

  -- one step of the run
  record Step (begins : Bool) (start p : ℕ) : Type 0 where
    pub comes : Comes s (p + step_by begins)
    pub within : p + step_by begins ≤ length s
    pub all : (i : ℕ) → p ≤ i → i < p + step_by begins → Going begins s start i

  one_step : (begins : Bool) (start p : ℕ) → On begins start p → Comes s p → does s begins p ≡ true → Step begins start p
  one_step true start p on comes doing =
      let told = remains true p doing in
      record {
        comes = past_frame comes told.1;
        within = omega (arith, told.0);
        all = λ i from to.
            let is : p ≡ start + 512 * ((i - start) / 512) = omega (arith, on.from, on.steps) in
            subst (InFrame s i) is (record { comes = comes; begins = told.1; from_start = from; before_end = to });
      }
  one_step false start p on comes doing =
      let told = remains false p doing in
      record {
        comes = past_byte comes told.1 told.0;
        within = omega (arith, told.0);
        all = λ i from to. let is : p ≡ i = omega arith in subst (Skips s) is (record { comes = comes; remain = told.0; none = told.1 });
      }

  -- where it stops, the next place is not so
  not_so : (begins : Bool) (start p : ℕ) → On begins start p → does s begins p ≡ false → Going begins s start p → ⊥
  not_so true start p on stop frame =
      let is : start + 512 * ((p - start) / 512) ≡ p = omega (arith, on.from, on.steps) in
      let begins : good s p ≡ true = sym (ap (good s) is) ∙ frame.begins in
      true≢false (sym (is_doing p (good-long s p begins)) ∙ ap (λ b. does s b p) begins ∙ stop)
  not_so false start p on stop skips =
      true≢false (sym (is_doing p skips.remain) ∙ ap (λ b. does s b p) skips.none ∙ stop)

  -- the run from p as far as its end
  record Row (begins : Bool) (start p end : ℕ) : Type 0 where
    pub from : p ≤ end
    pub within : end ≤ length s
    pub on : On begins start end
    pub comes : Comes s end
    pub all : (i : ℕ) → p ≤ i → i < end → Going begins s start i
    pub no_longer : Going begins s start end → ⊥

  module _ (begins : Bool) (start : ℕ) where
    no_more : (p : ℕ) → On begins start p → p ≤ length s → Comes s p → does s begins p ≡ false → Row begins start p (run_end s begins p)
    no_more p on within comes stop =
        subst⁻¹ (Row begins start p) (run_stops s begins p stop)
        (record {
          from = omega arith;
          within = within;
          on = on;
          comes = comes;
          all = λ i from to. absurd (omega arith);
          no_longer = not_so begins start p on stop;
        })

    one_more : (p : ℕ) → Step begins start p → does s begins p ≡ true → Row begins start (p + step_by begins) (run_end s begins (p + step_by begins)) → Row begins start p (run_end s begins p)
    one_more p step doing rest =
        subst⁻¹ (Row begins start p) (run_on s begins p doing)
        (record {
          from = omega (arith, rest.from);
          within = rest.within;
          on = rest.on;
          comes = rest.comes;
          all = λ i from to. by_order i (p + step_by begins) (step.all i from) (λ past. rest.all i past to);
          no_longer = rest.no_longer;
        })

    row : (n p : ℕ) → length s ≤ p + n → On begins start p → p ≤ length s → Comes s p → Row begins start p (run_end s begins p)
    row zero p enough on within comes = no_more p on within comes (does-nothing s begins p (omega arith))
    row (suc n) p enough on within comes =
        by_test (does s begins p)
        (λ doing.
        let step = one_step begins start p on comes doing in
        let some = some_step begins in
        one_more p step doing (row n (p + step_by begins) (omega arith) (on_next begins start p on) step.within step.comes))
        (no_more p on within comes)

  -- a place of a run of frames or skipped bytes is as the run's reason says
  module _ (start p : ℕ) where
    abbrev reason : Bool → Reason
    reason begins = cond begins (Inside start) (skipped_for s start)

    as_said : (begins : Bool) → Going begins s start p → Like (reason begins) s p
    as_said true is = is
    as_said false is = either (sync_at s start) (λ r. Like r s p) is is

    said : (begins : Bool) → Like (reason begins) s p → Going begins s start p
    said true is = is
    said false is = by_test (sync_at s start) (λ right. rw right at is) (λ wrong. rw wrong at is)

    -- a run of frames ends after whole frames
    whole : (begins : Bool) → On begins start p → is_inside (reason begins) ≡ true → (p - start) % 512 ≡ 0
    whole true on frames = on.steps
    whole false on frames = absurd (true≢false (sym frames ∙ either (sync_at s start) (λ r. is_inside r ≡ false) refl refl))

  module _ (start : ℕ) (comes : Comes s start) (inside : start < length s) where
    true_held : length s < start + 515 → TrueRun s start (held_up_to (length s))
    true_held few =
        let end = ends_here comes few in
        let counts = counted s in
        let held : (p : ℕ) → start ≤ p → p < length s → IsHeld s p = λ p from to. record { left = omega (arith, end); inside = to } in
        record {
          some = inside;
          within = omega arith;
          first = held start (omega arith) inside;
          all_alike = held;
          no_longer = λ is. let within = is.inside in omega (arith, within);
          whole_frames = λ frames. absurd (false≢true frames);
          next = inl refl;
        }

    true_going : start + 515 ≤ length s → TrueRun s start (going_of s start)
    true_going remain =
        let begins = good s start in
        let doing = is_doing start remain in
        let some = some_step begins in
        let on = on_start begins start in
        let step = one_step begins start start on comes doing in
        let later = row begins start (length s) (start + step_by begins) (omega arith) (on_next begins start start on) step.within step.comes in
        let row = one_more begins start start step doing later in
        let is : reason_of s start ≡ (going_of s start).reason = coming s start comes ∙ rw (le-ltb (length s) (start + 515) remain) in
        record {
          some = rw (run_on s begins start doing) (omega (arith, later.from));
          within = row.within;
          first = subst (IsTrueReason s start) is (reason_of_is_true s start inside);
          all_alike = λ p from to. as_said start p begins (row.all p from to);
          no_longer = λ is. row.no_longer (said start (run_end s begins start) begins is);
          whole_frames = whole start (run_end s begins start) begins row.on;
          next = inr row.comes;
        }

    pub run_is_true : TrueRun s start (run_of s start)
    run_is_true =
        by_order (length s) (start + 515)
        (λ few. subst⁻¹ (TrueRun s start) (run_held_lem s start few) (true_held few))
        (λ remain. subst⁻¹ (TrueRun s start) (run_going s start remain) (true_going remain))
