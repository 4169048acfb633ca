-- `samples::read_values` meets its contract: each turn writes one sample more. Assumes nothing.
use mathlib.Core.Path.{◌∙◌}
use native.Mathlib.Nat.{zero-add}
use mir.Facts.{to_z-of_z}
use mir.Syntax.{w32}
use Rattle.wire.proofs.Fill.{one_more}
use Rattle.radio_samples.proofs.samples.read_values.Goals as goal

pub loop-j-preserved : goal.loop-j-preserved
loop-j-preserved c =
    rw zero-add at (one_more _ _ _ _ _ _ c.loop-j.invariant _ c.loop-j-test.true (to_z-of_z {w = w32} (record { sfits = c.sample24.type_inv }) ∙ c.sample24.ensures))
