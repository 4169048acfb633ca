-- `Joined::next_good`: no place that it has gone past begins a good frame. Assumes nothing.
use Prim.Native.Nat.{◌-◌, ◌≤◌}
use Rattle.reading.proofs.NoneGood.{NoneGood}
use Rattle.stream.specs.Joined.{bytes}
use Rattle.stream.proofs.parts.Joined.next_good.Given as goal

abbrev pub invariant-loop-place : goal.invariant-loop-place
invariant-loop-place l = (l.start ≤ l.place) × NoneGood (bytes l.self) l.start l.place

abbrev pub decreases-loop-place : goal.decreases-loop-place
decreases-loop-place l = l.end - l.place
