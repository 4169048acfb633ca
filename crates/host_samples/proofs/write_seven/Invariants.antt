-- The loop of `host_samples::write_seven`: after t turns the first t slots are written. Assumes nothing.
use Rattle.host_samples.proofs.Filling.{Turned}
use Rattle.host_samples.proofs.Slots.{slots_of}
use Rattle.host_samples.proofs.write_seven.Given as goal

abbrev pub invariant-loop-t : goal.invariant-loop-t
invariant-loop-t l = Turned 8 (slots_of 1 l.fn.numbers) l.initial.part 7 l.t l.part
