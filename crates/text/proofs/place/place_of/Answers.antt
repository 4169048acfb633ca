-- `place::place_of` meets its contract: after each turn what is left of the text stands, after the digits so far, for what all of it does.
-- Assumes nothing.
use mathlib.Core.Path.{sym, ◌∙◌}
use native.Mathlib.Omega.{arith}
use borrow.Author.Tests.{eqb-true, eqb-false}
use Rattle.text.proofs.Places.{reading_none, reading_starts, reading_digit, reading_ends}
use Rattle.text.proofs.place.place_of.Goals as goal

pub returns-then-is_empty : goal.returns-then-is_empty
returns-then-is_empty c = reading_none _ (eqb-true _ _ (sym c.is_empty.ensures ∙ c.if-is_empty.true))

pub loop-b-init : goal.loop-b-init
loop-b-init c = reading_starts _ (eqb-false _ _ (sym c.is_empty.ensures ∙ c.if-is_empty.false))

pub loop-b-preserved : goal.loop-b-preserved
loop-b-preserved c =
    reading_digit _ _ _ c.loop-b.invariant (omega arith) _ (sym c.is_ascii_digit.ensures.value ∙ c.if-not-is_ascii_digit.false) (rw c.from.ensures at c.min-n.ensures)

pub returns : goal.returns
returns c = reading_ends _ _ _ c.loop-b.invariant (omega arith)
