-- What a transfer leaves in the cells, accepted or refused, is the record that it gives back: that after the frames which were read.
-- Assumes nothing.
use mathlib.Core.Path.{◌≡◌, sym, ap, ◌∙◌}
use mathlib.Core.Bool.{true}
use mathlib.Core.List.{List}
use Prim.Native.Nat.{ℕ}
use borrow.Author.Tests.{eqb-true, eqb-false}
use lib.Dec.{eqb}
use lib.IntN.{ℤ}
use Rattle.wire.proofs.Cases.{by_test}
use Rattle.transfer.specs.Transfer as Transfer
use Rattle.transfer.proofs.SingleReads.{none_read_given}
use Rattle.cells.specs.Cells.{within}
use Rattle.cells.proofs.Cases.{enough}
use Rattle.radio_door.specs.Radio.{Outcome}
use Rattle.radio_door.specs.Status.{status_most, status_of, status_cells}
use Rattle.radio_door.proofs.Faithful.{StatusFits, status_back}
use Rattle.hpsdr_transfer.specs.Transfer.{read_transfer_of}
use Rattle.hpsdr_transfer.proofs.TransferCases.{kept_none, kept_some, transfer_good}

module _ (input : List ℕ) (n : ℕ) (iq mic : List ℤ) (cells : List ℕ) (record-held : within status_most cells ≡ true) where
  abbrev done : Transfer.Outcome
  done = Transfer.transfer_of input n iq mic (status_of cells)

  pub transfer_leaves : StatusFits done.status → status_of (read_transfer_of input n iq mic cells).status ≡ done.status
  transfer_leaves fits =
      let fields = status_cells done.status in
      let shown = ap (λ (o : Outcome). status_of o.status) (transfer_good input n iq mic cells record-held) in
      by_test (eqb done.frames 0)
      (λ none.
      let is_none = eqb-true done.frames 0 none in
      shown ∙ ap status_of (kept_none done.frames fields cells is_none) ∙ sym (none_read_given input n iq mic (status_of cells) is_none))
      (λ some.
      shown ∙ ap status_of (kept_some done.frames fields cells (eqb-false done.frames 0 some))
      ∙ status_back done.status cells fits (enough status_most cells record-held))
