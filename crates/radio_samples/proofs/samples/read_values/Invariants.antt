-- The loop of `samples::read_values`: each turn writes one sample more. Assumes nothing.
use mathlib.Core.List.{List}
use Prim.Native.Nat.{ℕ, ◌*◌}
use lib.IntN.{ℤ}
use lib.ListN.{length}
use Rattle.wire.proofs.Fill.{Filled}
use Rattle.radio_samples.specs.Samples.{sample24}
use Rattle.radio_samples.proofs.samples.read_values.Given as goal

abbrev sample_at : List ℕ → ℕ → ℤ
sample_at part j = sample24 part (3 * j)

abbrev pub invariant-loop-j : goal.invariant-loop-j
invariant-loop-j l = Filled 0 (length l.initial.values) (sample_at l.part) l.initial.values l.j l.values
