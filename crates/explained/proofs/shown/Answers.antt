-- `shown` meets its contract: refused, or the sentence and the windows. Assumes nothing.
use mathlib.Core.Path.{sym, ◌∙◌}
use Rattle.std.proofs.Common.{rules}
use Rattle.explained.proofs.Calls.{shown_short, shown_none, shown_whole}
use Rattle.text.proofs.Puts.{and_then, handed_back}
use Rattle.explained.proofs.shown.Goals as goal

pub returns-then-out-lt-SHOWN : goal.returns-then-out-lt-SHOWN
returns-then-out-lt-SHOWN c = shown_short _ _ _ _ c.if-out-lt-SHOWN.true

pub returns-then-no_place : goal.returns-then-no_place
returns-then-no_place c = shown_none _ _ _ _ c.if-out-lt-SHOWN.false (sym c.no_place.ensures ∙ c.if-no_place.true)

pub returns : goal.returns
returns c =
    shown_whole _ _ _ _ c.if-out-lt-SHOWN.false (sym c.no_place.ensures ∙ c.if-no_place.false)
    (and_then _ _ _ _ c.sentence-at.ensures (handed_back c.windows.ensures (search rules)))
