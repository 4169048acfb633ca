-- The loop of `samples::read_slots`: each turn reads one slot more. Assumes nothing.
use Rattle.radio_samples.proofs.SlotBySlot.{ReadTo}
use Rattle.radio_samples.proofs.samples.read_slots.Given as goal

abbrev pub invariant-loop-t : goal.invariant-loop-t
invariant-loop-t l = ReadTo l.payload l.row.receivers l.initial.iq l.initial.mic l.row.slot l.row.slots l.iq l.mic l.t
