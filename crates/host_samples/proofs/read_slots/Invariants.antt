-- The loop of `host_samples::read_slots`: after t turns the first t slots are read. Assumes nothing.
use Rattle.host_samples.proofs.Filling.{Turned}
use Rattle.host_samples.proofs.Slots.{slot_numbers}
use Rattle.host_samples.proofs.read_slots.Given as goal

abbrev pub invariant-loop-t : goal.invariant-loop-t
invariant-loop-t l = Turned 4 (slot_numbers l.payload) l.initial.audio 63 l.t l.audio
