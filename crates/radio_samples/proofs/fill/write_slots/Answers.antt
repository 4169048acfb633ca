-- `fill::write_slots` meets its contract: each turn lays one slot more. Assumes nothing.
use mathlib.Core.Path.{◌≡◌}
use Prim.Native.Nat.{◌+◌, ◌*◌, ◌≤◌}
use native.Mathlib.Nat.{le_trans}
use native.Mathlib.Omega.{arith}
use borrow.Author.Rules.{rules}
use lib.IntN.{pos}
use lib.ListN.{length, get_or}
use mir.Facts.{to_z-of_z}
use mir.Syntax.{w16}
use mir.Val.{to_z, of_z}
use Rattle.wire.proofs.Laid.{none_laid, one_laid_more}
use Rattle.layout.specs.Slots as layout
use Rattle.layout.proofs.Places.{whole_payload, slot-inside, values-inside}
use Rattle.radio_samples.proofs.SlotsLaid.{slot_long, slot_put}
use Rattle.radio_samples.proofs.fill.write_slots.Goals as goal

pub loop-t-init : goal.loop-t-init
loop-t-init c = none_laid _ _ _ _ _ (omega (arith, whole_payload c.args.row.receivers, c.requires.2))

pub loop-t-preserved : goal.loop-t-preserved
loop-t-preserved c =
    let given = c.args in
    let n = given.row.receivers in
    let t = c.loop-t.t in
    let below = rw given.row.rule.slots_is at c.loop-t-test.true in
    let room : t * (2 * n) + 2 * n ≤ length given.iq.now = le_trans (values-inside n t below) c.requires.0 in
    let inside : 8 + t * layout.slot n + layout.slot n ≤ length c.loop-t.frame = omega (arith, slot-inside n t below, c.loop-t.invariant.room, c.loop-t.invariant.long) in
    let x = get_or given.mic.now t (pos 0) in
    let same : to_z w16 (of_z w16 x) ≡ x = to_z-of_z {w = w16} {z = x} (record { sfits = search rules }) in
    one_laid_more _ _ _ _ _ (slot_long n given.iq.now given.mic.now) _ _ c.loop-t.invariant _ below
    (rw given.row.rule.slot_is (slot_put n given.iq.now given.mic.now t room _ _ _ _ inside same c.write_slot.ensures))
