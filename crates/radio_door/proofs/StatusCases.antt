-- The record that cells are, in its cases: too few of them, and enough. Assumes nothing.
use mathlib.Core.Path.{◌≡◌, refl, sym, ap, ◌∙◌}
use mathlib.Core.Bool.{true, false}
use mathlib.Core.List.{List}
use Prim.Native.Nat.{ℕ, ◌<◌, ◌≤◌}
use borrow.Author.Tests.{lt-leb, le-leb, ltb-true}
use lib.Dec.{ltb}
use lib.ListN.{length, get_or, take}
use Rattle.std.proofs.lemmas.List.{get_or-take}
use Rattle.radio_status.specs.Record.{fresh_status}
use Rattle.radio_status.specs.declared.record.Status.{Status}
use Rattle.std.specs.Prelude.{Ok, Err}
use Rattle.wire.specs.declared.Refusal.{Refusal}
use Rattle.wire.specs.declared.Refusal.TheVariants.{BadState}
use Rattle.wire.proofs.Cases.{by_test}
use Rattle.cells.specs.Cells.{within}
use Rattle.cells.proofs.Cases.{enough}
use Rattle.radio_door.specs.Status.{status_most, status_of, status_in, status_from}

module _ (cells : List ℕ) where
  pub status_few : length cells < 26 → status_in cells ≡ fresh_status
  unfolding status_in
  status_few few = rw (lt-leb 26 (length cells) few)

  pub status_held : 26 ≤ length cells → status_in cells ≡ status_of cells
  unfolding status_in
  status_held room = rw (le-leb 26 (length cells) room)

  -- and no cell past the first 26 is looked at
  first : (i : ℕ) → ltb i 26 ≡ true → get_or (take 26 cells) i 0 ≡ get_or cells i 0
  first i below = get_or-take 26 cells i 0 (ltb-true i 26 below)

  of_first : status_of (take 26 cells) ≡ status_of cells
  of_first =
      simp (first 0 refl, first 1 refl, first 2 refl, first 3 refl, first 4 refl, first 5 refl, first 6 refl, first 7 refl, first 8 refl, first 9 refl, first 10 refl, first 11 refl, first 12 refl, first 13 refl, first 14 refl, first 15 refl, first 16 refl, first 17 refl, first 18 refl, first 19 refl, first 20 refl, first 21 refl, first 22 refl, first 23 refl, first 24 refl, first 25 refl)

  pub status_first : (chunk : List ℕ) → chunk ≡ take 26 cells → 26 ≤ length cells → status_of chunk ≡ status_in cells
  status_first chunk same room = rw same (of_first ∙ sym (status_held room))

  -- where the cells can be a record's, and where they cannot
  pub from_bad : within status_most cells ≡ false → Err BadState ≡ status_from cells
  unfolding status_from
  from_bad bad = rw bad

  pub from_good : within status_most cells ≡ true → Ok (status_in cells) ≡ status_from cells
  unfolding status_from
  from_good good = rw good (ap Ok (status_held (enough status_most cells good)))

  pub given_bad : (e : Refusal) → Err e ≡ status_from cells → (within status_most cells ≡ false) × (e ≡ BadState)
  given_bad e is =
      by_test (within status_most cells) (λ good. let other = from_good good in cc) (λ bad. let same = from_bad bad in (bad, (cc)))

  pub given_good : (s : Status) → Ok s ≡ status_from cells → (within status_most cells ≡ true) × (s ≡ status_of cells)
  given_good s is =
      by_test (within status_most cells)
      (λ good. let same = from_good good in let held = status_held (enough status_most cells good) in (good, (cc)))
      (λ bad. let other = from_bad bad in cc)
