-- `samples::read_slots` meets its contract: each turn reads one slot more. Assumes nothing.
use mathlib.Core.Path.{◌∙◌}
use Prim.Native.Nat.{◌+◌, ◌-◌, ◌*◌}
use native.Mathlib.Nat.{add-sub_cancel_left}
use native.Mathlib.Omega.{arith}
use mir.Facts.{to_z-of_z}
use mir.Syntax.{w16}
use Rattle.radio_samples.proofs.SlotBySlot.{in_payload, values_put, mic_read, one_slot_more}
use Rattle.radio_samples.proofs.samples.read_slots.Goals as goal

pub overflow_mul-at : goal.overflow_mul-at
overflow_mul-at c =
    omega (arith, in_payload _ _ _ _ _ _ _ _ _ c.loop-t.invariant c.loop-t-test.true)

pub overflow_add-at : goal.overflow_add-at
overflow_add-at c =
    omega (arith, in_payload _ _ _ _ _ _ _ _ _ c.loop-t.invariant c.loop-t-test.true)

pub slice_bounds-read_slot-end : goal.slice_bounds-read_slot-end
slice_bounds-read_slot-end c =
    omega (arith, in_payload _ _ _ _ _ _ _ _ _ c.loop-t.invariant c.loop-t-test.true, c.loop-t.invariant.whole)

pub loop-t-preserved : goal.loop-t-preserved
loop-t-preserved c =
    let inv = c.loop-t.invariant in
    let below = c.loop-t-test.true in
    let read = c.read_slot.ensures in
    let at = c.loop-t.t * c.args.row.slot in
    let width = at + c.args.row.slot - at in
    let mic = to_z-of_z {w = w16} (record { sfits = c.read_slot.type_inv }) ∙ read.1 in
    one_slot_more _ _ _ _ _ _ _ _ _ inv below _ _ _ (add-sub_cancel_left _ _) (values_put _ _ _ _ _ _ _ _ _ inv below _ _ read.0) (mic_read _ _ _ _ _ _ _ _ _ inv below width _ mic)
