-- The places of a reading: it comes to each of them, or goes past it by a frame. Assumes nothing.
use mathlib.Core.Path.{◌≡◌, sym, ap, ◌∙◌, subst}
use mathlib.Core.Logic.{◌⊎◌, inl, inr, ⊎_elim}
use mathlib.Core.Bool.{true, false}
use mathlib.Core.List.{List, ◌++◌}
use Prim.Native.Nat.{ℕ, zero, suc, ◌+◌, ◌<◌, ◌≤◌}
use native.Mathlib.Omega.{arith}
use lib.ListN.{length, take, drop, length-take, length-drop, take-append-drop}
use lib.Seq.{take_all, take-take, drop-drop, drop-append-le}
use Rattle.wire.proofs.Cases.{by_test, by_order}
use Rattle.reading.proofs.Append.{reading-append}
use Rattle.reading.proofs.Readings.{good-long, good-append, good-here, reading-few, reading-good, reading_none, counted, place_after, left_is}
use Rattle.reading.specs.Reading.{good, Reading, leaving, frame, skip, ◌and_then◌, reading}
use Rattle.reading.specs.UpTo.{up_to, Comes, GoesPast}

-- whatever p is, the reading of s begins so, and goes on where that ends
pub begins_so : (s : List ℕ) (p : ℕ) → reading s ≡ up_to p s and_then reading (drop (place_after (take (p + 514) s)) s)
begins_so s p =
    let front = take (p + 514) s in
    let back = drop (p + 514) s in
    let end = place_after front in
    let both : front ++ back ≡ s = take-append-drop (p + 514) s in
    let counts = counted front in
    let inside : drop end s ≡ drop end front ++ back = sym (ap (drop end) both) ∙ drop-append-le end front back (omega arith) in
    sym (ap reading both) ∙ reading-append front back ∙ rw (inside, left_is front)

-- so from a place that it comes to, it goes on as a reading of the bytes from there on
pub comes_then : (s : List ℕ) (p : ℕ) → Comes s p → reading s ≡ up_to p s and_then reading (drop p s)
comes_then s p comes = begins_so s p ∙ ap (λ end. up_to p s and_then reading (drop end s)) comes.end_is

-- one step more, of k bytes: what the reading gives before n, where that is inside the step or at its end
goes_on : (s : List ℕ) (p k n : ℕ) (first : Reading) → Comes s p → p ≤ n → n ≤ p + k → (let t = take (n + 514) s in reading (drop p t) ≡ first and_then reading (drop k (drop p t))) → up_to n s ≡ up_to p s and_then first and_then leaving (drop k (drop p (take (n + 514) s)))
goes_on s p k n first comes from to step =
    let t = take (n + 514) s in
    let same : take (p + 514) t ≡ take (p + 514) s = take-take (p + 514) (n + 514) s (omega arith) in
    let few : length (drop k (drop p t)) < 515 = rw (drop-drop k p t, length-drop (p + k) t, length-take (n + 514) s) (omega arith) in
    comes_then t p (record { end_is = rw same comes.end_is }) ∙ rw (same, step, reading-few (drop k (drop p t)) few)

-- whether a good frame begins at a place, the 515 bytes from there on tell
told : (s : List ℕ) (p n : ℕ) → p + 515 ≤ n → p + 515 ≤ length s → good (drop p (take n s)) 0 ≡ good s p
told s p n inside enough =
    good-here (take n s) p
    ∙ sym (good-append (take n s) (drop n s) p (rw (length-take n s) (omega arith)))
    ∙ ap (λ l. good l p) (take-append-drop n s)

pub comes_first : (s : List ℕ) → Comes s 0
comes_first s = record { end_is = rw (reading-few (take 514 s) (rw (length-take 514 s) (omega arith))) }

-- before n the reading gives what it gives before p, and so many frames and skipped bytes more
pub record Further (s : List ℕ) (p n frames skipped : ℕ) : Type 0 where
  pub frames_are : (up_to n s).frames ≡ (up_to p s).frames + frames
  pub skipped_are : (up_to n s).skipped ≡ (up_to p s).skipped + skipped

module _ {s : List ℕ} {p : ℕ} (comes : Comes s p) where
  further : (k n : ℕ) (first : Reading) → p ≤ n → n ≤ p + k → (let t = take (n + 514) s in reading (drop p t) ≡ first and_then reading (drop k (drop p t))) → Further s p n first.frames first.skipped
  further k n first from to step =
      let all = goes_on s p k n first comes from to step in
      record { frames_are = rw all (omega arith); skipped_are = rw all (omega arith) }

  -- from a place that it comes to, the reading goes past a frame, or past a byte
  pub over_frame : good s p ≡ true → (n : ℕ) → p < n → n ≤ p + 512 → Further s p n 1 0
  over_frame here n from to =
      let t = take (n + 514) s in
      let long = good-long s p here in
      further 512 n (frame (take 512 (drop p t))) (omega arith) to (reading-good (drop p t) (told s p (n + 514) (omega arith) long ∙ here))

  pub over_byte : good s p ≡ false → p + 515 ≤ length s → Further s p (p + 1) 0 1
  over_byte none enough =
      let t = take (p + 1 + 514) s in
      further 1 (p + 1) skip (omega arith) (omega arith)
      (reading_none (drop p t) (rw (length-drop p t, length-take (p + 1 + 514) s) (omega arith)) (told s p (p + 1 + 514) (omega arith) enough ∙ none))

  -- and comes to the place behind it
  pub past_frame : good s p ≡ true → Comes s (p + 512)
  past_frame here =
      let on = over_frame here (p + 512) (omega arith) (omega arith) in
      record { end_is = omega (arith, on.frames_are, on.skipped_are, comes.end_is) }

  pub past_byte : good s p ≡ false → p + 515 ≤ length s → Comes s (p + 1)
  past_byte none enough =
      let on = over_byte none enough in
      record { end_is = omega (arith, on.frames_are, on.skipped_are, comes.end_is) }

  -- or ends there
  pub ends_here : length s < p + 515 → place_after s ≡ p
  ends_here few = sym (ap place_after (take_all (p + 514) s (omega arith))) ∙ comes.end_is

-- what is true of place 0, and goes on with each step of the reading, is true of the place where it ends
module _ (s : List ℕ) (P : ℕ → Type 0)
    (at_first : P 0)
    (at_frame : (p : ℕ) → Comes s p → good s p ≡ true → P p → P (p + 512))
    (at_byte : (p : ℕ) → Comes s p → p + 515 ≤ length s → good s p ≡ false → P p → P (p + 1))
  where
    walk : (n p : ℕ) → length s ≤ p + n → Comes s p → P p → P (place_after s)
    walk zero p few comes here = rw (ends_here comes (omega arith)) here
    walk (suc n) p few comes here =
        by_order (length s) (p + 515) (λ end. rw (ends_here comes end) here)
        (λ enough.
        by_test (good s p) (λ begins. walk n (p + 512) (omega arith) (past_frame comes begins) (at_frame p comes begins here))
        (λ none. walk n (p + 1) (omega arith) (past_byte comes none enough) (at_byte p comes enough none here)))

    pub to_the_end : P (place_after s)
    to_the_end = walk (length s) 0 (omega arith) (comes_first s) at_first

-- a place that the reading comes to, one that it goes past, or one behind its end
abbrev pub Place : List ℕ → ℕ → Type 0
Place s p = Comes s p ⊎ GoesPast s p ⊎ (place_after s < p)

next_place : (s : List ℕ) (p : ℕ) → Place s p → Place s (p + 1)
next_place s p =
    ⊎_elim
    (λ comes.
    by_order (length s) (p + 515) (λ few. inr (inr (rw (ends_here comes few) (omega arith))))
    (λ enough.
    by_test (good s p) (λ here. inr (inl (record { start = p; comes = comes; begins = here; before = omega arith; behind = omega arith })))
    (λ none. inl (past_byte comes none enough))))
    (⊎_elim
    (λ past.
    by_order (p + 1) (past.start + 512)
    (λ inside. inr (inl (record { start = past.start; comes = past.comes; begins = past.begins; before = omega (arith, past.before); behind = inside })))
    (λ end.
    let is : past.start + 512 ≡ p + 1 = omega (arith, past.behind) in
    inl (subst (Comes s) is (past_frame past.comes past.begins))))
    (λ behind. inr (inr (omega arith))))

pub every_place : (p : ℕ) (s : List ℕ) → Place s p
every_place zero s = inl (comes_first s)
every_place (suc p) s = subst (Place s) (omega arith) (next_place s p (every_place p s))

-- with 514 bytes from it on, it is not behind the end
pub comes_or_goes_past : (p : ℕ) (s : List ℕ) → p + 514 ≤ length s → Comes s p ⊎ GoesPast s p
comes_or_goes_past p s enough =
    ⊎_elim inl (⊎_elim inr (λ behind. let counts = counted s in absurd (omega arith))) (every_place p s)
