-- `Joined::read`: each turn is a good frame, and the places after it that begin none. Assumes nothing.
use Prim.Native.Nat.{◌-◌}
use lib.ListN.{length}
use Rattle.stream.proofs.Scanning.{Scanning}
use Rattle.stream.specs.Joined.{bytes}
use Rattle.stream.proofs.parts.Joined.read.Given as goal

abbrev pub invariant-loop-place : goal.invariant-loop-place
invariant-loop-place l = Scanning (bytes l.self) l.initial.output l.output l.frames l.place

abbrev pub decreases-loop-place : goal.decreases-loop-place
decreases-loop-place l = length (bytes l.self) - l.place
