-- One reading, however the stream is cut. Assumes nothing.
use mathlib.Core.Path.{◌≡◌}
use mathlib.Core.List.{List, ◌++◌}
use Prim.Native.Nat.{ℕ, ◌≤◌}
use native.Mathlib.Omega.{arith}
use lib.ListN.{length, length-append, length-take}
use Rattle.reading.proofs.Append.{reading-append}
use Rattle.stream.proofs.Calls.{by_outcome}
use Rattle.reading.proofs.Readings.{counted}
use Rattle.stream.proofs.Runs.{once}
use Rattle.stream.proofs.Sound.{fresh_kept}
use Rattle.stream.specs.Feed.{after, feed_of}
use Rattle.reading.specs.Reading.{◌and_then◌, reading}
use Rattle.stream.specs.Record.{fresh_of, held_bytes}
use Rattle.stream.specs.Run.{Call, AllAccepted, pieces, handed_out, last_of}
use Rattle.stream.specs.declared.Stream.{Stream}

-- reading x with y after it is reading x, and then reading what it left with y after it
pub cut : (x y : List ℕ) → reading (x ++ y) ≡ reading x and_then reading ((reading x).left ++ y)
cut = reading-append

-- so any list of accepted pieces hands out the frames, and ends with the record, of one reading of their concatenation
pub however_cut : (calls : List Call) → AllAccepted fresh_of calls → (handed_out fresh_of calls ≡ (reading (pieces calls)).handed) × (last_of fresh_of calls ≡ after fresh_of (length (pieces calls)) (reading (pieces calls)))
however_cut calls accepted =
    let one = once calls fresh_of fresh_kept accepted in
    (one.handed_is, one.last_is)

-- and at most eight frames come from one call, from every record
pub at_most_eight : (given : Stream) (piece output : List ℕ) → (feed_of given piece output).frames ≤ 8
at_most_eight given piece output =
    by_outcome given piece output (λ o. o.frames ≤ 8) (λ refusal e. omega arith)
    (λ passes.
    let counts = counted (held_bytes given ++ piece) in
    omega (arith, length-append (held_bytes given) piece, length-take given.count given.held))
