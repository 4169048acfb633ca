-- The loop of `host_samples::write_slot`: each turn lays the two bytes of one number more. Assumes nothing.
use mathlib.Core.List.{List}
use Prim.Native.Nat.{ℕ}
use lib.IntN.{ℤ, pos}
use lib.ListN.{get_or}
use Rattle.wire.proofs.Laid.{Laid}
use Rattle.host_samples.specs.Samples.{standing, pair_bytes}
use Rattle.host_samples.proofs.write_slot.Given as goal

abbrev written : List ℤ → ℕ → List ℕ
written numbers m = pair_bytes (get_or numbers (standing m) (pos 0))

abbrev pub invariant-loop-m : goal.invariant-loop-m
invariant-loop-m l = Laid 0 2 4 (written l.numbers) l.initial.slot l.m l.slot
