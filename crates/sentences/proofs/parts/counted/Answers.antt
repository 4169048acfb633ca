-- `parts::counted` meets its contract: the number, and one of the two words. Assumes nothing.
use native.Mathlib.Omega.{arith}
use borrow.Author.Tests.{eq-eqb, ne_eqb}
use Rattle.text.proofs.Puts.{puts_then}
use Rattle.sentences.proofs.parts.counted.Goals as goal

pub returns-then-n-eq1 : goal.returns-then-n-eq1
returns-then-n-eq1 c = rw (eq-eqb _ _ c.if-n-eq1.true) (puts_then c.number.ensures c.put.ensures)

pub returns : goal.returns
returns c = rw (ne_eqb c.args.n 1 (λ one. omega arith)) (puts_then c.number.ensures c.put-2.ensures)
