-- The record stays sound. Assumes nothing.
use Rattle.std.proofs.Common.{◌≡◌, ◌≤◌, true}
use Rattle.stream.specs.Record.{sound_of}
use Rattle.framing.proofs.pass.Given as goal

abbrev pub invariant-loop : goal.invariant-loop
invariant-loop g l = (sound_of l.passed.0 ≡ true) × (l.passed.1.0 ≤ 8200)
