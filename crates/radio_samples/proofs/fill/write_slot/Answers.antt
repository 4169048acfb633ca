-- `fill::write_slot` meets its contract: the values of the slot, and then the two bytes of the microphone. Assumes nothing.
use mathlib.Core.Path.{◌≡◌, ap, ◌∙◌}
use Prim.Native.Nat.{◌*◌}
use native.Mathlib.Numerals.{add-one}
use lib.ListN.{length}
use mir.Facts.{to_z-of_z}
use mir.Syntax.{w16}
use mir.Val.{to_z, of_z}
use Rattle.wire.specs.Numbers.{bytes_of, unsigned}
use Rattle.radio_samples.proofs.SlotsLaid.{mic_after_values}
use Rattle.radio_samples.proofs.fill.write_slot.Goals as goal

pub returns : goal.returns
returns c =
    let given = c.args in
    let same : to_z w16 (of_z w16 given.mic) ≡ given.mic = to_z-of_z {w = w16} {z = given.mic} c.ranges.mic in
    let bytes : c.bytes_of_sample16-b.result ≡ bytes_of 2 (unsigned 16 given.mic) = c.bytes_of_sample16-b.ensures ∙ ap (λ z. bytes_of 2 (unsigned 16 z)) same in
    rw (bytes, add-one (3 * length given.values.now)) (mic_after_values given.values.now given.mic _ _ c.requires.1 c.write_receivers.ensures)
