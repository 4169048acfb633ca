-- `samples::read_pairs` meets its contract: each turn reads I and Q of one receiver more. Assumes nothing.
use mathlib.Core.Path.{refl, ◌∙◌}
use mir.Facts.{to_z-of_z}
use mir.Syntax.{w32}
use Rattle.wire.proofs.Laid.{one_laid_more, all_laid}
use Rattle.radio_samples.proofs.Pairs.{pair_read_lem, pairs_read}
use Rattle.radio_samples.proofs.samples.read_pairs.Goals as goal

pub loop-r-preserved : goal.loop-r-preserved
loop-r-preserved c =
    let loop = c.loop-r in
    let i = to_z-of_z {w = w32} (record { sfits = c.sample24-i.type_inv }) ∙ c.sample24-i.ensures in
    let q = to_z-of_z {w = w32} (record { sfits = c.sample24-q.type_inv }) ∙ c.sample24-q.ensures in
    one_laid_more _ _ _ _ _ (λ r. refl) _ _ loop.invariant _ c.loop-r-test.true (pair_read_lem c.args.part.now loop.r loop.values _ _ i q)

pub returns : goal.returns
returns c =
    all_laid _ _ _ _ _ (λ r. refl) _ _ c.loop-r.invariant c.loop-r-test.false ∙ pairs_read c.args.part.now _ _ c.requires.0
