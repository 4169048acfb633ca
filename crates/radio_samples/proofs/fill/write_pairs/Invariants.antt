-- The loop of `fill::write_pairs`: each turn lays the six bytes of one receiver more. Assumes nothing.
use Prim.Native.Nat.{◌/◌}
use lib.ListN.{length}
use Rattle.wire.proofs.Laid.{Laid}
use Rattle.radio_samples.proofs.Pairs.{pair_bytes}
use Rattle.radio_samples.proofs.fill.write_pairs.Given as goal

abbrev pub invariant-loop-r : goal.invariant-loop-r
invariant-loop-r l = Laid 0 6 (length l.values / 2) (pair_bytes l.values) l.initial.part l.r l.part
