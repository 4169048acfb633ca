-- `hpsdr_radio_read_transfer` meets its contract: cells that are no record, or the transfer on the record that they are. Assumes nothing.
use mathlib.Core.Path.{ap, subst⁻¹, ◌∙◌}
use Prim.Native.Nat.{◌≤◌}
use Rattle.transfer.specs.Transfer.{Outcome}
use Rattle.transfer.proofs.SingleReads.{at_most_eight}
use Rattle.cells.proofs.Cases.{enough}
use Rattle.radio_door.specs.Radio.{gave}
use Rattle.radio_door.specs.Status.{status_most}
use Rattle.radio_door.proofs.StatusCases.{given_good}
use Rattle.hpsdr_transfer.specs.Transfer.{shown}
use Rattle.hpsdr_transfer.proofs.TransferCases.{transfer_none, transfer_taken}
use Rattle.hpsdr_transfer.proofs.hpsdr_radio_read_transfer.Goals as goal

pub returns-in-Err : goal.returns-in-Err
returns-in-Err c =
    let given = c.args in
    ap (λ k. gave k given.status.now given.iq.now given.mic.now) c.tell.ensures.0 ∙ transfer_none _ _ _ _ _ c.in-Err.refusal c.in-Err.ensures

pub keep-requires : goal.keep-requires
keep-requires c =
    let few = at_most_eight _ _ _ _ _ in (
      enough status_most c.args.status.now (given_good _ _ c.in-Ok.ensures).0,
      subst⁻¹ (λ (o : Outcome). o.frames ≤ 8) c.read-done.ensures few,
    )

pub returns-in-Ok : goal.returns-in-Ok
returns-in-Ok c =
    (λ i. gave (c.keep.ensures.value i) (c.keep.ensures.cells_after i) c.read-done.new.iq c.read-done.new.mic)
    ∙ ap (shown c.args.status.now) c.read-done.ensures
    ∙ transfer_taken _ _ _ _ _ _ c.in-Ok.ensures
