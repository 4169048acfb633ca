-- Bytes behind those that are there. Assumes nothing.
use mathlib.Core.Path.{◌≡◌}
use mathlib.Core.Bool.{true, false}
use mathlib.Core.List.{List}
use Prim.Native.Nat.{ℕ, ◌+◌, ◌<◌, ◌≤◌}
use borrow.Author.Tests.{lt-ltb, le-ltb}
use lib.ListN.{length}
use Rattle.wire.proofs.Copies.{written, all_written}
use Rattle.explaining.specs.Gathered.{Gathered, kept, appended}

module _ (count : ℕ) (bytes input : List ℕ) where
  abbrev stays : Gathered
  stays = record { count = count; going = false; whole = false }

  abbrev grows : Gathered
  grows = record { count = count + length bytes; going = true; whole = false }

  pub too_many : length input < count + length bytes → kept stays input ≡ appended count bytes input
  unfolding appended
  too_many over = rw (lt-ltb (length input) (count + length bytes) over)

  pub fits : count + length bytes ≤ length input → kept grows (written input count bytes) ≡ appended count bytes input
  unfolding appended
  fits room = rw (le-ltb (length input) (count + length bytes) room, all_written input count bytes room)
