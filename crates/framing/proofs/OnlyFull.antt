-- From a sound record, with a piece and an output of the right lengths, a call is refused only where the stream is full. Assumes nothing.
use mathlib.Core.Path.{◌≡◌, ap}
use mathlib.Core.Bool.{true, cond}
use mathlib.Core.List.{List}
use Prim.Native.Nat.{ℕ, ◌+◌, ◌^◌, ◌≤◌}
use borrow.Author.Tests.{le-leb, lt-leb}
use lib.Dec.{leb}
use lib.ListN.{length}
use Rattle.wire.proofs.Cases.{by_order}
use Rattle.std.specs.Prelude.{Err}
use Rattle.wire.specs.Answers.{Accepted}
use Rattle.wire.specs.declared.Refusal.TheVariants.{StreamFull}
use Rattle.stream.specs.Feed.{Outcome, feed_of}
use Rattle.stream.specs.Record.{sound_of}
use Rattle.stream.specs.declared.Stream.{Stream}
use Rattle.stream.proofs.Calls.{stream_full, fed}
use Rattle.stream.proofs.Records.{sound_told}

pub only_full : (given : Stream) (piece output : List ℕ) → sound_of given ≡ true → length piece ≤ 4096 → 4096 ≤ length output
    → (feed_of given piece output).answer ≡ cond (leb (given.total + length piece) (2 ^ 48)) Accepted (Err StreamFull)
only_full given piece output sound short room =
    by_order (2 ^ 48) (given.total + length piece)
    (λ full. rw (lt-leb (given.total + length piece) (2 ^ 48) full) (ap (λ (o : Outcome). o.answer) (stream_full given piece output sound short room full)))
    (λ fits.
    rw (le-leb (given.total + length piece) (2 ^ 48) fits)
    (ap (λ (o : Outcome). o.answer) (fed given piece output (record { sound = sound_told given sound; short = short; room = room; fits = fits }))))
