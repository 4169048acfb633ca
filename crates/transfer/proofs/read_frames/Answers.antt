-- `read_frames` meets its contract: what is left to read leaves what all frames leave from the start. Assumes nothing.
use mathlib.Core.Path.{ap, ◌∙◌}
use Rattle.transfer.specs.Transfer.{gave}
use Rattle.transfer.proofs.InOrder.{stopped, turn}
use Rattle.transfer.proofs.read_frames.Goals as goal

pub returns-in-Err : goal.returns-in-Err
returns-in-Err c =
    ap (λ t. gave t c.one_more.new.iq c.one_more.new.mic) c.ended.ensures
    ∙ stopped _ _ _ _ _ _ _ _ _ c.loop-frame.invariant c.loop-frame-test.true _ _ _ c.in-Err.ensures

pub loop-frame-preserved : goal.loop-frame-preserved
loop-frame-preserved c =
    turn _ _ _ _ _ _ _ _ _ c.loop-frame.invariant c.loop-frame-test.true _ _ _ c.in-Ok.ensures c.one_more.auto.iq c.one_more.auto.mic
