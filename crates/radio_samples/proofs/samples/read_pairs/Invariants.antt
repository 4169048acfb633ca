-- The loop of `samples::read_pairs`: each turn reads I and Q of one receiver more. Assumes nothing.
use Prim.Native.Nat.{◌/◌}
use lib.ListN.{length}
use Rattle.wire.proofs.Laid.{Laid}
use Rattle.radio_samples.proofs.Pairs.{pair_read}
use Rattle.radio_samples.proofs.samples.read_pairs.Given as goal

abbrev pub invariant-loop-r : goal.invariant-loop-r
invariant-loop-r l = Laid 0 2 (length l.initial.values / 2) (pair_read l.part) l.initial.values l.r l.values
