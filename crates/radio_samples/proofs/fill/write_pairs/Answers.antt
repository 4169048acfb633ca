-- `fill::write_pairs` meets its contract: each turn lays the six bytes of one receiver more. Assumes nothing.
use mathlib.Core.Path.{refl, ap, ◌∙◌}
use Prim.Native.Nat.{◌+◌, ◌*◌}
use borrow.Author.Rules.{rules}
use lib.IntN.{pos}
use lib.ListN.{get_or}
use lib.Seq.{sets}
use mir.Facts.{to_z-of_z}
use mir.Syntax.{w32}
use Rattle.wire.proofs.Laid.{one_laid_more, all_laid}
use Rattle.radio_samples.proofs.Pairs.{pair_written, pairs_written}
use Rattle.radio_samples.proofs.fill.write_pairs.Goals as goal

pub loop-r-preserved : goal.loop-r-preserved
loop-r-preserved c =
    let loop = c.loop-r in
    let values = c.args.values.now in
    let i = to_z-of_z {w = w32} {z = get_or values (loop.r * 2) (pos 0)} (record { sfits = search rules }) in
    let q = to_z-of_z {w = w32} {z = get_or values (loop.r * 2 + 1) (pos 0)} (record { sfits = search rules }) in
    one_laid_more _ _ _ _ _ (λ r. refl) _ _ loop.invariant _ c.loop-r-test.true (pair_written values loop.r loop.part _ _ _ _ i q c.write_value.ensures c.write_value-in-loop-r.ensures)

pub returns : goal.returns
returns c =
    all_laid _ _ _ _ _ (λ r. refl) _ _ c.loop-r.invariant c.loop-r-test.false ∙ ap (sets c.args.part.now 0) (pairs_written c.args.values.now _ c.requires.0)
