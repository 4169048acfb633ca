-- Demand 3: the stream finds its place again. Assumes nothing.
use mathlib.Core.Path.{◌≡◌, ap, ◌∙◌}
use mathlib.Core.List.{List, ◌++◌, append-nil}
use Prim.Native.Nat.{ℕ, ◌+◌, ◌*◌, ◌^◌, ◌≤◌}
use native.Mathlib.Nat.{zero-add}
use native.Mathlib.Omega.{arith}
use lib.ListN.{length, take, drop, length-drop}
use lib.Seq.{drop-drop}
use Rattle.stream.proofs.Cut.{however_cut}
use Rattle.reading.proofs.InARow.{frames, skips, frames_in_a_row, skips_in_a_row}
use Rattle.reading.proofs.Readings.{good-drop, reading-few}
use Rattle.stream.proofs.Runs.{all_accepted}
use Rattle.stream.proofs.Sound.{fresh_kept}
use Rattle.stream.specs.Damage.{Damaged}
use Rattle.reading.specs.Reading.{leaving, ◌and_then◌, reading}
use Rattle.stream.specs.Record.{fresh_of}
use Rattle.stream.specs.Run.{Call, AllAccepted, AllFit, pieces, handed_out, last_of}

-- the damaged input, read at once
module _ {s : List ℕ} {a m b : ℕ} (d : Damaged s a m b) where
  abbrev middle : List ℕ
  middle = drop (512 * a) s

  abbrev end : List ℕ
  end = drop (512 * a + m) s

  first_row : reading s ≡ frames a s and_then reading middle
  first_row = frames_in_a_row a s d.before

  middle_row : reading middle ≡ skips m and_then reading end
  middle_row =
      skips_in_a_row m middle (rw (length-drop (512 * a) s) (omega (arith, d.some, d.long))) (λ k h. good-drop (512 * a) s k ∙ d.between k h)
      ∙ rw (drop-drop m (512 * a) s)

  last_row : reading end ≡ frames b end and_then reading (drop (512 * b) end)
  last_row = frames_in_a_row b end (λ j h. good-drop (512 * a + m) s (512 * j) ∙ d.behind j h)

  rest : reading (drop (512 * b) end) ≡ leaving (drop (512 * b) end)
  rest = reading-few (drop (512 * b) end) (rw (length-drop (512 * b) end, length-drop (512 * a + m) s) (omega (arith, d.long)))

  at_once : reading s ≡ frames a s and_then skips m and_then frames b end and_then leaving (drop (512 * b) end)
  at_once = first_row ∙ rw (middle_row, last_row, rest)

  handed_is : (reading s).handed ≡ take (512 * a) s ++ take (512 * b) (drop (512 * a + m) s)
  handed_is = rw (at_once, append-nil (take (512 * b) end))

  skipped_is : (reading s).skipped ≡ m
  skipped_is = rw at_once (omega arith)

-- For every damaged input, and every list of pieces that it is cut into and that are accepted from a fresh stream on, with any lent
-- outputs: exactly the first and the last frames are handed out, in order and unaltered, and the middle's bytes are those skipped.
pub resync : (s : List ℕ) (a m b : ℕ) → Damaged s a m b → (calls : List Call) → pieces calls ≡ s → AllAccepted fresh_of calls → (handed_out fresh_of calls ≡ take (512 * a) s ++ take (512 * b) (drop (512 * a + m) s)) × ((last_of fresh_of calls).skipped ≡ m)
resync s a m b damaged calls cut accepted =
    let one = however_cut calls accepted in
    let read = ap reading cut in
    (one.0 ∙ ap (λ r. r.handed) read ∙ handed_is damaged, ap (λ l. l.skipped) one.1 ∙ zero-add (reading (pieces calls)).skipped ∙ ap (λ r. r.skipped) read ∙ skipped_is damaged)

-- Pieces of at most 4,096 bytes and 2^48 in all, with outputs of at least 4,096, are accepted: the theorem is not empty.
pub pieces-accepted : (calls : List Call) → AllFit calls → length (pieces calls) ≤ 2 ^ 48 → AllAccepted fresh_of calls
pieces-accepted calls fit small = all_accepted calls fresh_of fresh_kept fit (omega arith)
