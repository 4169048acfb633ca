-- The loop of `fill::write_values`: each turn lays three bytes more. Assumes nothing.
use lib.ListN.{length}
use Rattle.wire.proofs.Laid.{Laid}
use Rattle.radio_samples.specs.Fill.{iq_bytes}
use Rattle.radio_samples.proofs.fill.write_values.Given as goal

abbrev pub invariant-loop-j : goal.invariant-loop-j
invariant-loop-j l = Laid 0 3 (length l.values) (iq_bytes l.values) l.initial.part l.j l.part
