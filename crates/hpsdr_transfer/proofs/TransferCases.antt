-- A transfer through the door, in its cases. Assumes nothing.
use mathlib.Core.Path.{◌≡◌, sym, ap, ◌∙◌}
use mathlib.Core.Bool.{true, false}
use mathlib.Core.List.{List}
use Prim.Native.Nat.{ℕ}
use borrow.Author.Tests.{eq-eqb, ne_eqb}
use lib.IntN.{ℤ}
use lib.Seq.{sets}
use Rattle.std.specs.Prelude.{Ok, Err}
use Rattle.wire.specs.Answers.{told}
use Rattle.wire.specs.declared.Refusal.{Refusal}
use Rattle.radio_status.specs.declared.record.Status.{Status}
use Rattle.transfer.specs.Transfer.{transfer_of}
use Rattle.cells.specs.Cells.{within, bad_state}
use Rattle.radio_door.specs.Status.{status_most, status_of, status_from}
use Rattle.radio_door.proofs.StatusCases.{given_bad, given_good}
use Rattle.radio_door.specs.Radio.{gave}
use Rattle.hpsdr_transfer.specs.Transfer.{kept_after, shown, read_transfer_of}

module _ (frames : ℕ) (fields cells : List ℕ) where
  pub kept_none : frames ≡ 0 → kept_after frames fields cells ≡ cells
  kept_none none = rw (eq-eqb frames 0 none)

  pub kept_some : (frames ≡ 0 → ⊥) → kept_after frames fields cells ≡ sets cells 0 fields
  kept_some some = rw (ne_eqb frames 0 some)

module _ (input : List ℕ) (n : ℕ) (iq mic : List ℤ) (cells : List ℕ) where
  pub transfer_bad : within status_most cells ≡ false → read_transfer_of input n iq mic cells ≡ gave bad_state cells iq mic
  unfolding read_transfer_of
  transfer_bad bad = rw bad

  pub transfer_good : within status_most cells ≡ true → read_transfer_of input n iq mic cells ≡ shown cells (transfer_of input n iq mic (status_of cells))
  unfolding read_transfer_of
  transfer_good good = rw good

  -- cells that are no record, and those that are one
  pub transfer_none : (e : Refusal) → Err e ≡ status_from cells → gave (told (Err e)) cells iq mic ≡ read_transfer_of input n iq mic cells
  transfer_none e is =
      let bad = given_bad cells e is in ap (λ r. gave (told (Err r)) cells iq mic) bad.1 ∙ sym (transfer_bad bad.0)

  pub transfer_taken : (s : Status) → Ok s ≡ status_from cells → shown cells (transfer_of input n iq mic s) ≡ read_transfer_of input n iq mic cells
  transfer_taken s is =
      let good = given_good cells s is in ap (λ t. shown cells (transfer_of input n iq mic t)) good.1 ∙ sym (transfer_good good.0)
