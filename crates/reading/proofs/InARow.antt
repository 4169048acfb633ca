-- Frames in a row, and bytes that are skipped in a row. Assumes nothing.
use mathlib.Core.Path.{◌≡◌, sym, ap, ◌∙◌}
use mathlib.Core.Bool.{true, false}
use mathlib.Core.List.{List, []}
use Prim.Native.Nat.{ℕ, zero, suc, ◌+◌, ◌*◌, ◌<◌, ◌≤◌}
use native.Mathlib.Omega.{arith}
use lib.ListN.{length, take, drop, length-drop}
use lib.Seq.{take-add}
use Rattle.reading.proofs.Readings.{good-drop, leaving-then, reading-on, reading-good, reading_none}
use Rattle.reading.specs.Reading.{good, Reading, frame, skip, ◌and_then◌, reading}

abbrev pub frames : ℕ → List ℕ → Reading
frames n s = record { frames = n; handed = take (512 * n) s; skipped = 0; left = [] }

abbrev pub skips : ℕ → Reading
skips n = record { frames = 0; handed = []; skipped = n; left = [] }

pub frames_in_a_row : (n : ℕ) (s : List ℕ) → ((i : ℕ) → i < n → good s (512 * i) ≡ true) → reading s ≡ frames n s and_then reading (drop (512 * n) s)
frames_in_a_row zero s all = sym (leaving-then [] (reading s))
frames_in_a_row (suc n) s all =
    let size : 512 * suc n ≡ 512 + 512 * n = omega arith in
    let one : 1 + n ≡ suc n = omega arith in
    let later = frames_in_a_row n (drop 512 s) (λ i h. good-drop 512 s (512 * i) ∙ ap (good s) (omega arith) ∙ all (suc i) (omega arith)) in
    reading-on s 512 (512 * n) (frame (take 512 s)) (frames n (drop 512 s)) (reading-good s (all 0 (omega arith))) later
    ∙ rw (size, take-add 512 (512 * n) s, one)

pub skips_in_a_row : (n : ℕ) (s : List ℕ) → n + 514 ≤ length s → ((k : ℕ) → k < n → good s k ≡ false) → reading s ≡ skips n and_then reading (drop n s)
skips_in_a_row zero s long none = sym (leaving-then [] (reading s))
skips_in_a_row (suc n) s long none =
    let one : 1 + n ≡ suc n = omega arith in
    let later = skips_in_a_row n (drop 1 s) (rw (length-drop 1 s) (omega arith)) (λ k h. good-drop 1 s k ∙ ap (good s) (omega arith) ∙ none (suc k) (omega arith)) in
    reading-on s 1 n skip (skips n) (reading_none s (omega arith) (none 0 (omega arith))) later
    ∙ rw one
