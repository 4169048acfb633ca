-- `fill::write_values` meets its contract: each turn lays three bytes more. Assumes nothing.
use mathlib.Core.Path.{◌≡◌, refl, sym, ap, ◌∙◌}
use Prim.Native.Nat.{◌*◌}
use native.Mathlib.Nat.{zero-add}
use borrow.Author.Rules.{rules}
use lib.IntN.{pos}
use lib.ListN.{get_or}
use lib.Seq.{sets}
use mir.Facts.{to_z-of_z}
use mir.Syntax.{w32}
use mir.Val.{to_z, of_z}
use Rattle.wire.specs.Numbers.{bytes_of, unsigned}
use Rattle.wire.proofs.Laid.{one_laid_more}
use Rattle.radio_samples.specs.Fill.{iq_bytes}
use Rattle.radio_samples.proofs.fill.write_values.Goals as goal

pub loop-j-preserved : goal.loop-j-preserved
loop-j-preserved c =
    let j = c.loop-j.j in
    let part = c.loop-j.part in
    let x = get_or c.args.values.now j (pos 0) in
    let same : to_z w32 (of_z w32 x) ≡ x = to_z-of_z {w = w32} {z = x} (record { sfits = search rules }) in
    one_laid_more _ _ _ _ _ (λ j. refl) _ _ c.loop-j.invariant _ c.loop-j-test.true
    (c.write_value.ensures ∙ ap (λ z. sets part (j * 3) (bytes_of 3 (unsigned 24 z))) same ∙ ap (λ at. sets part at (iq_bytes c.args.values.now j)) (sym (zero-add (j * 3))))
