-- Calls one after another: which are accepted, and one call more in front of a run. Assumes nothing.
use mathlib.Core.Path.{◌≡◌, refl, sym, ap, ◌∙◌}
use mathlib.Core.List.{List, [], ◌∷◌, ◌++◌, append_assoc, append-nil}
use Prim.Native.Nat.{ℕ, ◌+◌, ◌-◌, ◌*◌, ◌^◌, ◌≤◌}
use native.Mathlib.Nat.{add_assoc, add-zero}
use native.Mathlib.Omega.{arith}
use lib.ListN.{length, drop, replicate, length-append, length-drop, take-append-drop}
use lib.Seq.{length-take-le, take_at}
use Rattle.reading.proofs.Append.{reading-append}
use Rattle.stream.proofs.Calls.{Passes, fed, accepted_passes}
use Rattle.stream.proofs.Cells.{take_cells}
use Rattle.wire.proofs.Everywhere.{zeros_are}
use Rattle.reading.proofs.Readings.{counted, reading-few}
use Rattle.stream.proofs.Sound.{Kept, after_kept}
use Rattle.stream.specs.Feed.{after}
use Rattle.reading.specs.Reading.{Reading, leaving, ◌and_then◌, reading}
use Rattle.stream.specs.Record.{held_bytes}
use Rattle.stream.specs.Run.{Call, AllAccepted, AllFit, pieces, handed_out, last_of}
use Rattle.stream.specs.declared.Stream.{Stream}

-- the bytes that a run of calls reads
abbrev pub fed_to : Stream → List Call → List ℕ
fed_to given calls = held_bytes given ++ pieces calls

-- the run gives what one reading of all its bytes gives
pub record Once (given : Stream) (calls : List Call) : Type 0 where
  pub handed_is : handed_out given calls ≡ (reading (fed_to given calls)).handed
  pub last_is : last_of given calls ≡ after given (length (pieces calls)) (reading (fed_to given calls))

-- a sound record is what a reading of the bytes that it holds leaves
once_none : (given : Stream) → Kept given → Once given []
once_none given kept =
    let held = held_bytes given in
    let long : length held ≡ given.count = length-take-le given.count given.held (omega arith) in
    let none : reading (fed_to given []) ≡ leaving held = ap reading (append-nil held) ∙ reading-few held (omega arith) in
    let past : drop given.count given.held ≡ replicate (514 - given.count) 0 =
    zeros_are (drop given.count given.held) kept.sound.clean
    ∙ ap (λ n. replicate n 0) (length-drop given.count given.held ∙ ap (λ n. n - given.count) kept.cells) in
    record {
      handed_is = rw none;
      last_is =
          rw (none, long, ← past, take-append-drop given.count given.held, add-zero given.frames, add-zero given.skipped, add-zero given.total);
    }

after-after : (given : Stream) (m n : ℕ) (a b : Reading) → after (after given m a) n b ≡ after given (m + n) (a and_then b)
after-after given m n a b =
    rw (add_assoc given.frames a.frames b.frames, add_assoc given.skipped a.skipped b.skipped, add_assoc given.total m n)

-- what an accepted call reads, and the record that it gives
abbrev read : Stream → Call → Reading
read given call = reading (held_bytes given ++ call.piece)

abbrev next : Stream → Call → Stream
next given call = after given (length call.piece) (read given call)

once_more : (given : Stream) (call : Call) (calls : List Call) → Passes given (length call.piece) (length call.output) → Once (next given call) calls → Once given (call ∷ calls)
once_more given call calls passes rest =
    let first = read given call in
    let counts = counted (held_bytes given ++ call.piece) in
    let apart : reading (fed_to given (call ∷ calls)) ≡ first and_then reading (first.left ++ pieces calls) =
    ap reading (sym (append_assoc (held_bytes given) call.piece (pieces calls))) ∙ reading-append (held_bytes given ++ call.piece) (pieces calls) in
    let held : held_bytes (next given call) ≡ first.left = take_cells 514 first.left in
    let frames = take_at first.handed (drop (length first.handed) call.output) (512 * first.frames) counts.whole in
    record {
      handed_is =
          rw (fed given call.piece call.output passes, apart, frames, rest.handed_is, held);
      last_is =
          rw (fed given call.piece call.output passes, apart, rest.last_is, held, length-append call.piece (pieces calls))
          (after-after given (length call.piece) (length (pieces calls)) first (reading (first.left ++ pieces calls)));
    }

pub once : (calls : List Call) (given : Stream) → Kept given → AllAccepted given calls → Once given calls
once [] given kept accepted = once_none given kept
once (call ∷ calls) given kept accepted =
    let passes = accepted_passes given call.piece call.output accepted.0 in
    once_more given call calls passes
    (once calls (next given call) (after_kept given call.piece kept passes) (rw (fed given call.piece call.output passes) at accepted.1))

pub all_accepted : (calls : List Call) (given : Stream) → Kept given → AllFit calls → given.total + length (pieces calls) ≤ 2 ^ 48 → AllAccepted given calls
all_accepted [] given kept fit small = tt
all_accepted (call ∷ calls) given kept fit small =
    let sum = length-append call.piece (pieces calls) in
    let passes : Passes given (length call.piece) (length call.output) =
    record { sound = kept.sound; short = fit.0; room = fit.1; fits = omega arith } in
    rw (fed given call.piece call.output passes)
    (refl, all_accepted calls (next given call) (after_kept given call.piece kept passes) fit.2 (omega arith))
