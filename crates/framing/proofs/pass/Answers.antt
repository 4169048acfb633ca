-- A fresh record is sound. Assumes nothing.
use Rattle.std.proofs.Common.{ap, ◌∙◌, arith}
use Rattle.stream.specs.Record.{sound_of}
use Rattle.stream.proofs.Sound.{fresh_sound}
use Rattle.framing.proofs.pass.Goals as goal

pub loop-init : goal.loop-init
loop-init g c = (ap sound_of c.fresh.ensures ∙ fresh_sound, omega arith)

pub invariant_of-passed : goal.invariant_of-passed
invariant_of-passed g c = record { sound = c.loop.invariant.0; inside = c.loop.invariant.1 }
