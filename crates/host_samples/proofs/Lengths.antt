-- A payload and a slice of numbers, whole or not: the two ways between them in each case. Assumes nothing.
use mathlib.Core.Path.{◌≡◌}
use mathlib.Core.Bool.{true, false}
use mathlib.Core.List.{List}
use Prim.Native.Nat.{ℕ, ◌≤◌}
use borrow.Author.Tests.{eq-eqb, eqb-true, le-leb, leb-true}
use lib.Dec.{eqb, leb}
use lib.IntN.{ℤ}
use lib.ListN.{length}
use Rattle.wire.proofs.Cases.{both_true}
use Rattle.host_samples.specs.Samples.{numbers, payload_from, whole, slots_read, numbers_written}

pub lengths : (bytes count : ℕ) → whole bytes count ≡ true → (bytes ≡ 504) × (252 ≤ count)
unfolding whole
lengths bytes count e =
    let both = both_true (eqb bytes 504) (leb 252 count) e in
    (eqb-true _ _ both.0, leb-true _ _ both.1)

pub is_whole : (bytes count : ℕ) → bytes ≡ 504 → 252 ≤ count → whole bytes count ≡ true
unfolding whole
is_whole bytes count long room = rw (eq-eqb _ _ long, le-leb _ _ room)

module _ (payload : List ℕ) (audio : List ℤ) where
  pub all_read : whole (length payload) (length audio) ≡ true → slots_read payload audio ≡ numbers payload audio
  unfolding slots_read
  all_read e = rw e

  pub none_read : whole (length payload) (length audio) ≡ false → slots_read payload audio ≡ audio
  unfolding slots_read
  none_read e = rw e

  pub all_written : whole (length payload) (length audio) ≡ true → numbers_written audio payload ≡ payload_from audio
  unfolding numbers_written
  all_written e = rw e

  pub none_written : whole (length payload) (length audio) ≡ false → numbers_written audio payload ≡ payload
  unfolding numbers_written
  none_written e = rw e
