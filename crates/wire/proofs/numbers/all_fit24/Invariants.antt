-- what the loop keeps
-- `numbers::all_fit24` meets its contract: number by number. Assumes nothing.
use Rattle.wire.proofs.Everywhere.{Tested}
use Rattle.wire.specs.Numbers.{fits}
use Rattle.wire.proofs.numbers.all_fit24.Given as goal

abbrev pub invariant-loop-x : goal.invariant-loop-x
invariant-loop-x l = Tested (fits 24) l.xs l.so_far l.x-index
