-- `parts::subject` meets its contract: one place, or the first and the last. Assumes nothing.
use Prim.Native.Nat.{◌-◌}
use native.Mathlib.Omega.{arith}
use borrow.Author.Tests.{eq-eqb, ne_eqb}
use mathlib.Core.Path.{sym, ◌∙◌}
use Rattle.text.proofs.Puts.{puts_then}
use Rattle.sentences.proofs.parts.subject.Goals as goal

pub returns-then-saturating_sub-eq1 : goal.returns-then-saturating_sub-eq1
returns-then-saturating_sub-eq1 c =
    rw (eq-eqb _ _ (sym c.saturating_sub.ensures ∙ c.if-saturating_sub-eq1.true)) (puts_then c.labelled.ensures c.put.ensures)

pub returns : goal.returns
returns c =
    rw (ne_eqb (c.args.end - c.args.start) 1 (λ one. omega arith), ← c.saturating_sub-2.ensures)
    (puts_then (puts_then c.labelled-2.ensures c.labelled-3.ensures) c.put-2.ensures)
