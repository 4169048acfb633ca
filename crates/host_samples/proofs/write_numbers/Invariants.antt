-- The loop of `host_samples::write_numbers`: after t turns seven times t slots are written. Assumes nothing.
use Rattle.host_samples.proofs.Filling.{Turned}
use Rattle.host_samples.proofs.Slots.{slots_of}
use Rattle.host_samples.proofs.write_numbers.Given as goal

abbrev pub invariant-loop-t : goal.invariant-loop-t
invariant-loop-t l = Turned 56 (slots_of 7 l.audio) l.initial.payload 9 l.t l.payload
