-- `host_samples::write_slot` meets its contract: each turn lays the two bytes of one number more. Assumes nothing.
use mathlib.Core.Path.{refl, sym, ◌∙◌}
use native.Mathlib.Omega.{arith}
use Rattle.wire.proofs.Laid.{all_laid}
use Rattle.wire.proofs.Lists.{sets-all}
use Rattle.host_samples.specs.Samples.{pairs_from}
use Rattle.host_samples.proofs.write_slot.Goals as goal

pub returns : goal.returns
unfolding pairs_from
returns c =
    all_laid _ _ _ _ _ (λ t. refl) _ _ c.loop-m.invariant (omega arith)
    ∙ sets-all c.args.slot.now (pairs_from 4 c.args.numbers.now) (sym c.requires)
