-- `host_turn::Fitting::word` meets its contract: an arm for each kind of word. Assumes nothing.
use mathlib.Core.Path.{sym, ◌∙◌}
use native.Mathlib.Omega.{arith}
use Rattle.host_turn.specs.Sent.{said}
use Rattle.host_turn.proofs.Saying.{said-frequency, said-front}
use Rattle.host_turn.proofs.Fitting.word.Goals as goal

pub returns-in-0 : goal.returns-in-0
unfolding said
returns-in-0 c = rw c.in-0.is c.settings.ensures

pub returns-in-1 : goal.returns-in-1
unfolding said
returns-in-1 c = rw c.in-1.is c.bytes_of_u32.ensures

pub returns-in-9 : goal.returns-in-9
unfolding said
returns-in-9 c = rw c.in-9.is c.switches_of.ensures

pub returns-in-2-to-8 : goal.returns-in-2-to-8
returns-in-2-to-8 c = c.bytes_of_u32-in-2-to-8.ensures ∙ sym (said-frequency _ _ (omega arith) (omega arith))

pub returns-in_default : goal.returns-in_default
returns-in_default c = c.front.ensures ∙ sym (said-front _ _ (omega arith))
