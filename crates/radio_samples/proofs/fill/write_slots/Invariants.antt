-- The loop of `fill::write_slots`: each turn lays one slot more. Assumes nothing.
use Rattle.wire.proofs.Laid.{Laid}
use Rattle.layout.specs.Slots as layout
use Rattle.radio_samples.specs.Fill.{slot_bytes}
use Rattle.radio_samples.proofs.fill.write_slots.Given as goal

abbrev pub invariant-loop-t : goal.invariant-loop-t
invariant-loop-t l =
    let n = l.row.receivers in
    Laid 8 (layout.slot n) (layout.slots n) (slot_bytes n l.iq l.mic) l.initial.frame l.t l.frame
