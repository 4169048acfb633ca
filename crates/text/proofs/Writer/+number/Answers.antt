-- `Writer::number` meets its contract: a last group after the number without it. Assumes nothing.
use native.Mathlib.Omega.{arith}
use Rattle.text.proofs.Numbers.{last_three}
use Rattle.text.proofs.Puts.{puts_then}
use Rattle.text.proofs.Writer.+number.Goals as goal

pub returns : goal.returns
returns t c = rw (last_three c.args.n (omega arith)) (puts_then c.number.ensures c.group.ensures)
