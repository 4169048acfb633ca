-- `Writer::byte` meets its contract: there is room for it, or none. Assumes nothing.
use mathlib.Core.Path.{refl, sym, ◌∙◌}
use Rattle.text.proofs.Puts.{put_nothing, put_byte, put_full}
use Rattle.text.proofs.Writer.byte.Goals as goal

pub returns-then-self : goal.returns-then-self
returns-then-self c = record { same = refl; put = put_nothing _ _ ∙ sym (put_byte _ _ _ _ c.if-self.true) }

pub returns-else-self : goal.returns-else-self
returns-else-self c = record { same = refl; put = put_full _ _ _ c.if-self.false }
