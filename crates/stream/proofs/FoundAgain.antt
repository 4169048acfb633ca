-- T-13: what is found after a false match, in an input of any content. Assumes nothing.
use mathlib.Core.Path.{◌≡◌, sym, ap, ◌∙◌}
use mathlib.Core.Logic.{◌⊎◌, inl, inr, ⊎_elim}
use mathlib.Core.Bool.{true, true≢false}
use mathlib.Core.List.{List, ◌++◌, append_assoc}
use Prim.Native.Nat.{ℕ, ◌+◌, ◌-◌, ◌*◌, ◌<◌}
use native.Mathlib.Omega.{arith}
use lib.ListN.{length, take, drop, length-drop}
use lib.Seq.{drop-drop, length-take-le, take_at, drop_at}
use Rattle.reading.proofs.InARow.{frames, frames_in_a_row}
use Rattle.reading.proofs.Readings.{good-drop, good-long, counted}
use Rattle.reading.proofs.UpTo.{comes_then, comes_or_goes_past}
use Rattle.reading.specs.Reading.{good, ◌and_then◌, reading}
use Rattle.reading.specs.UpTo.{up_to, Comes, GoesPast}
use Rattle.stream.specs.Clear.{Clear, Found, FoundOrOverlapped}

-- good frames in a row from a place that the reading comes to
found : (s : List ℕ) (p b : ℕ) → Comes s p → ((j : ℕ) → j < b → good s (p + 512 * j) ≡ true) → Found s p b (reading s).handed
found s p b comes in_a_row =
    let before = (up_to p s).handed in
    let row : reading (drop p s) ≡ frames b (drop p s) and_then reading (drop (p + 512 * b) s) =
    frames_in_a_row b (drop p s) (λ j h. good-drop p s (512 * j) ∙ in_a_row j h) ∙ rw (drop-drop (512 * b) p s) in
    record {
      comes = comes;
      handed_is =
          ap (λ r. r.handed) (comes_then s p comes)
          ∙ ap (λ r. before ++ r.handed) row
          ∙ sym (append_assoc before (take (512 * b) (drop p s)) (reading (drop (p + 512 * b) s)).handed);
      which = (counted (take (p + 514) s)).whole;
    }

found_one : (s : List ℕ) (p : ℕ) → Comes s p → good s p ≡ true → Found s p 1 (reading s).handed
found_one s p comes here = found s p 1 comes (λ j h. ap (good s) (omega arith) ∙ here)

at-good : (s : List ℕ) (p : ℕ) → good s p ≡ true → Comes s p ⊎ GoesPast s p
at-good s p here = let long = good-long s p here in comes_or_goes_past p s (omega arith)

-- In an input of any content, if place p begins a good frame and none of the up to 511 places before it does, that frame is handed out, and so is
-- each good frame that follows directly.
pub found_again : (s : List ℕ) (p b : ℕ) → Clear 511 s p b → Found s p b (reading s).handed
found_again s p b clear =
    let here : good s p ≡ true = ap (good s) (omega arith) ∙ clear.in_a_row 0 (omega (arith, clear.some)) in
    ⊎_elim (λ comes. found s p b comes clear.in_a_row)
    (λ past.
    absurd (true≢false (sym past.begins ∙ clear.before past.start (omega (arith, past.behind)) past.before)))
    (at-good s p here)

-- A good frame is lost only to one that is handed out and begins at one of the up to 511 places before it.
pub lost_to_one_before : (s : List ℕ) (p : ℕ) → good s p ≡ true → FoundOrOverlapped s p (reading s).handed
lost_to_one_before s p here =
    ⊎_elim (λ comes. inl (found_one s p comes here)) (λ past. inr (past, found_one s past.start past.comes past.begins))
    (at-good s p here)

-- Where a caller finds them: behind as many frames as the first p + 514 bytes give stand the b frames from p on.
pub where_they_stand : (n : ℕ) (s : List ℕ) (p b : ℕ) (handed : List ℕ) → Clear n s p b → Found s p b handed → take (512 * b) (drop (512 * (up_to p s).frames) handed) ≡ take (512 * b) (drop p s)
where_they_stand n s p b handed clear found-there =
    let before = (up_to p s).handed in
    let row = take (512 * b) (drop p s) in
    let after = (reading (drop (p + 512 * b) s)).handed in
    let long = good-long s (p + 512 * (b - 1)) (clear.in_a_row (b - 1) (omega (arith, clear.some))) in
    let whole : length row ≡ 512 * b = length-take-le (512 * b) (drop p s) (rw (length-drop p s) (omega (arith, clear.some))) in
    rw (found-there.handed_is, append_assoc before row after, drop_at before (row ++ after) (512 * (up_to p s).frames) found-there.which)
    (take_at row after (512 * b) whole)
