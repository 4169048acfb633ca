-- What a transfer returns tells its answer with the place, and how many frames were read: on a frame's refusal that frame's index, from 0.
-- Assumes nothing.
use mathlib.Core.Path.{◌≡◌, ap, subst⁻¹}
use mathlib.Core.Bool.{true}
use mathlib.Core.List.{List}
use Prim.Native.Nat.{ℕ}
use native.Mathlib.Omega.{arith}
use lib.IntN.{ℤ}
use Rattle.transfer.specs.Transfer as Transfer
use Rattle.transfer.proofs.SingleReads.{at_most_eight}
use Rattle.cells.specs.Cells.{within, Tells}
use Rattle.cells.proofs.Parts.{three_parts}
use Rattle.radio_door.specs.Radio.{Outcome}
use Rattle.radio_door.specs.Status.{status_most, status_of}
use Rattle.hpsdr_transfer.specs.Transfer.{read_transfer_of}
use Rattle.hpsdr_transfer.proofs.TransferCases.{transfer_good}

module _ (input : List ℕ) (n : ℕ) (iq mic : List ℤ) (cells : List ℕ) (record-held : within status_most cells ≡ true) where
  abbrev done : Transfer.Outcome
  done = Transfer.transfer_of input n iq mic (status_of cells)

  pub transfer_tells : Tells (read_transfer_of input n iq mic cells).number done.answer done.frames
  transfer_tells =
      let few = at_most_eight input n iq mic (status_of cells) in
      subst⁻¹ (λ (k : ℕ). Tells k done.answer done.frames) (ap (λ (o : Outcome). o.number) (transfer_good input n iq mic cells record-held)) (three_parts done.answer done.frames (omega (arith, few)))
