-- What a scan reads, and from it to the outcome of an accepted call. Assumes nothing.
use mathlib.Core.Path.{◌≡◌}
use mathlib.Core.Bool.{cond, ◌&&◌}
use mathlib.Core.List.{List, [], ◌++◌}
use Prim.Native.Nat.{ℕ, ◌+◌, ◌-◌, ◌≤◌}
use native.Mathlib.Omega.{arith}
use borrow.Author.Tests.{le-leb}
use lib.Dec.{leb}
use lib.ListN.{length, drop}
use Rattle.std.specs.Prelude.{Ok}
use Rattle.reading.proofs.Readings.{counted, left-length}
use Rattle.reading.specs.Reading.{reading}
use Rattle.stream.specs.Record.{cells}
use Rattle.stream.specs.Feed.{gave, accepted}
use Rattle.stream.specs.Steps.{Scans}
use Rattle.stream.specs.declared.Stream.{Stream}
use Rattle.stream.specs.declared.scan.Scanned.{Scanned}

-- what a scan reads: both parts, or nothing where one is too long or the output too short
module _ (held piece output : List ℕ) where
  abbrev pub fitting : List ℕ
  fitting = cond (leb (length held) 514 && leb (length piece) 4096 && leb 4096 (length output)) (held ++ piece) []

  pub all_fits : length held ≤ 514 → length piece ≤ 4096 → 4096 ≤ length output → fitting ≡ held ++ piece
  all_fits few short room = rw (le-leb (length held) 514 few, le-leb (length piece) 4096 short, le-leb 4096 (length output) room)

module _ {s output exit : List ℕ} {r : Scanned} (scans : Scans s output r exit) where
  rest : length s - r.place ≡ length (reading s).left
  rest = left-length s r.place scans.left_is

  -- no more than a record may hold
  pub rest_few : length s ≤ r.place + 514
  rest_few = omega (arith, rest, (counted s).few)

  pub advances : (given : Stream) (piece count : ℕ) (held : List ℕ) → held ≡ cells 514 (drop r.place s) → count ≡ length s - r.place → gave given (Ok (record { frames = r.frames; next = record { held = held; count = count; frames = given.frames + r.frames; skipped = given.skipped + r.skipped; total = given.total + piece } })) exit ≡ accepted given piece (reading s) output
  advances given piece count held is left =
      rw (is, scans.left_is, left, rest, scans.frames_is, scans.skipped_is, scans.output_is)
