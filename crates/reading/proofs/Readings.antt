-- The reading of a list of bytes: its three cases by name, induction over them, its counts, and where what is left begins.
-- Nothing but this file looks at how the recursion is made. Assumes nothing.
use mathlib.Core.Path.{◌≡◌, refl, sym, ap, ◌∙◌}
use mathlib.Core.Bool.{true, false, true≢false, and-false}
use mathlib.Core.List.{List, ◌++◌, append_assoc}
use Prim.Native.Nat.{ℕ, zero, suc, ◌+◌, ◌-◌, ◌*◌, ◌<◌, ◌≤◌, min}
use native.Mathlib.Nat.{add_assoc, add-zero, zero-add}
use native.Mathlib.Omega.{arith}
use borrow.Author.Tests.{lt-ltb, le-ltb, ltb-false}
use lib.Dec.{ltb}
use lib.ListN.{length, take, drop, length-append, length-drop}
use lib.Seq.{drop-drop, length-take-le}
use Rattle.wire.proofs.Cases.{by_test, by_order}
use Rattle.wire.proofs.SyncCases.{past_end}
use Rattle.wire.specs.Sync.{sync_at}
use Rattle.wire.proofs.SyncCases.{sync_append, sync-drop}
use Rattle.reading.specs.Reading.{good, Reading, leaving, frame, skip, ◌and_then◌, step, steps, reading}

-- ---- a good frame

-- a good frame has its 512 bytes and the next sync
pub good-long : (s : List ℕ) (p : ℕ) → good s p ≡ true → p + 515 ≤ length s
good-long s p here =
    by_order (p + 514) (length s) (λ h. omega arith)
    (λ short. let none : sync_at s (p + 512) ≡ false = past_end s (p + 512) (omega arith) in absurd (true≢false (sym here ∙ rw none (and-false (sync_at s p)))))

pub good-append : (x y : List ℕ) (p : ℕ) → p + 515 ≤ length x → good (x ++ y) p ≡ good x p
good-append x y p inside = rw (sync_append x y p (omega arith), sync_append x y (p + 512) (omega arith))

pub good-drop : (k : ℕ) (s : List ℕ) (p : ℕ) → good (drop k s) p ≡ good s (k + p)
good-drop k s p = rw (sync-drop k s p, sync-drop k s (p + 512), add_assoc k p 512)

pub good-here : (s : List ℕ) (p : ℕ) → good (drop p s) 0 ≡ good s p
good-here s p = good-drop p s 0 ∙ ap (good s) (add-zero p)

-- ---- one reading and then another

pub leaving-then : (s : List ℕ) (r : Reading) → leaving s and_then r ≡ r
leaving-then s r = rw (zero-add r.frames, zero-add r.skipped)

pub then_then : (a b c : Reading) → (a and_then b) and_then c ≡ a and_then b and_then c
then_then a b c =
    rw (add_assoc a.frames b.frames c.frames, add_assoc a.skipped b.skipped c.skipped, append_assoc a.handed b.handed c.handed)

-- a reading that goes on at k, and from there at n past it
pub reading-on : (s : List ℕ) (k n : ℕ) (first rest : Reading) → reading s ≡ first and_then reading (drop k s) → reading (drop k s) ≡ rest and_then reading (drop n (drop k s)) → reading s ≡ (first and_then rest) and_then reading (drop (k + n) s)
reading-on s k n first rest here later =
    here ∙ rw (later, drop-drop n k s) (sym (then_then first rest (reading (drop (k + n) s))))

-- ---- the recursion

step_same : (s : List ℕ) (f g : List ℕ → Reading) → ((k : ℕ) → 515 ≤ length s → 0 < k → f (drop k s) ≡ g (drop k s)) → step s f ≡ step s g
step_same s f g same =
    by_test (ltb (length s) 515) (λ few. rw few)
    (λ more.
    let enough = ltb-false (length s) 515 more in
    by_test (good s 0) (λ here. rw (more, here, same 512 enough (omega arith))) (λ none. rw (more, none, same 1 enough (omega arith))))

few-steps : (n : ℕ) (s : List ℕ) → length s < 515 → steps n s ≡ leaving s
few-steps zero s few = refl
few-steps (suc n) s few = rw (lt-ltb (length s) 515 few)

steps-enough : (m n : ℕ) (s : List ℕ) → length s ≤ m → length s ≤ n → steps m s ≡ steps n s
steps-enough zero n s hm hn = sym (few-steps n s (omega arith))
steps-enough (suc m) zero s hm hn = few-steps (suc m) s (omega arith)
steps-enough (suc m) (suc n) s hm hn =
    step_same s (steps m) (steps n)
    (λ k enough some. steps-enough m n (drop k s) (rw (length-drop k s) (omega arith)) (rw (length-drop k s) (omega arith)))

reading_step : (s : List ℕ) → reading s ≡ step s reading
unfolding reading
reading_step s =
    steps-enough (length s) (suc (length s)) s (omega arith) (omega arith)
    ∙ step_same s (steps (length s)) reading
    (λ k enough some. steps-enough (length s) (length (drop k s)) (drop k s) (rw (length-drop k s) (omega arith)) (omega arith))

module _ (s : List ℕ) where
  -- fewer than 515 bytes are left as they are
  pub reading-few : length s < 515 → reading s ≡ leaving s
  reading-few few = rw (reading_step s, lt-ltb (length s) 515 few)

  pub reading-good : good s 0 ≡ true → reading s ≡ frame (take 512 s) and_then reading (drop 512 s)
  reading-good here = rw (reading_step s, le-ltb (length s) 515 (good-long s 0 here), here)

  pub reading_none : 515 ≤ length s → good s 0 ≡ false → reading s ≡ skip and_then reading (drop 1 s)
  reading_none enough none = rw (reading_step s, le-ltb (length s) 515 enough, none)

module _ (P : List ℕ → Type 0)
    (at-few : (s : List ℕ) → length s < 515 → P s)
    (at-good : (s : List ℕ) → good s 0 ≡ true → P (drop 512 s) → P s)
    (at_none : (s : List ℕ) → 515 ≤ length s → good s 0 ≡ false → P (drop 1 s) → P s)
  where
    within : (n : ℕ) (s : List ℕ) → length s ≤ n → P s
    within zero s h = at-few s (omega arith)
    within (suc n) s h =
        by_order (length s) 515 (λ few. at-few s few)
        (λ enough.
        by_test (good s 0) (λ here. at-good s here (within n (drop 512 s) (rw (length-drop 512 s) (omega arith))))
        (λ none. at_none s enough none (within n (drop 1 s) (rw (length-drop 1 s) (omega arith)))))

    -- what holds of fewer than 515 bytes, and of a list if it holds where the reading goes on, holds of every list
    pub reading_ind : (s : List ℕ) → P s
    reading_ind s = within (length s) s (omega arith)

-- ---- the counts

pub record Counted (s : List ℕ) (r : Reading) : Type 0 where
  pub tally : 512 * r.frames + r.skipped + length r.left ≡ length s
  pub whole : length r.handed ≡ 512 * r.frames
  pub few : length r.left ≤ 514
  -- the sync after the last frame is left
  pub three : min 3 (length s) ≤ length r.left
  -- to skip a byte 515 are wanted
  pub beyond : r.skipped ≤ length s - 514

pub counted : (s : List ℕ) → Counted s (reading s)
counted =
    reading_ind (λ s. Counted s (reading s))
    (λ s few. rw (reading-few s few) (omega arith))
    (λ s here rest.
    let long = good-long s 0 here in
    rw (reading-good s here)
    (omega (arith, length-drop 512 s, length-take-le 512 s (omega arith), length-append (take 512 s) (reading (drop 512 s)).handed)))
    (λ s enough none rest. rw (reading_none s enough none) (omega (arith, length-drop 1 s)))

-- ---- what is left

-- how long it is, by the place where it begins
pub left-length : (s : List ℕ) (place : ℕ) → drop place s ≡ (reading s).left → length s - place ≡ length (reading s).left
left-length s place begins = sym (length-drop place s) ∙ ap length begins

-- the place after the frames that a reading hands out and the bytes that it skips
abbrev pub place_after : List ℕ → ℕ
place_after s = 512 * (reading s).frames + (reading s).skipped

-- what it leaves begins there
pub left_is : (s : List ℕ) → (reading s).left ≡ drop (place_after s) s
left_is =
    reading_ind (λ s. (reading s).left ≡ drop (place_after s) s) (λ s few. rw (reading-few s few))
    (λ s here rest.
    let on : 512 + place_after (drop 512 s) ≡ 512 * (1 + (reading (drop 512 s)).frames) + (0 + (reading (drop 512 s)).skipped) = omega arith in
    rw (reading-good s here) (rest ∙ drop-drop (place_after (drop 512 s)) 512 s ∙ ap (λ n. drop n s) on))
    (λ s enough none rest.
    let on : 1 + place_after (drop 1 s) ≡ 512 * (0 + (reading (drop 1 s)).frames) + (1 + (reading (drop 1 s)).skipped) = omega arith in
    rw (reading_none s enough none) (rest ∙ drop-drop (place_after (drop 1 s)) 1 s ∙ ap (λ n. drop n s) on))
