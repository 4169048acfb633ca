-- `run_line` meets its contract: refused, or the line. Assumes nothing.
use mathlib.Core.Path.{sym, ◌∙◌}
use Rattle.std.proofs.Common.{rules}
use Rattle.text.proofs.Puts.{handed_back}
use Rattle.sentences.proofs.Calls.{run_short, run_none, run-whole}
use Rattle.sentences.proofs.run_line.Goals as goal

pub returns-then-out-lt-LINE : goal.returns-then-out-lt-LINE
returns-then-out-lt-LINE c = run_short _ _ _ _ c.if-out-lt-LINE.true

pub returns-then-no_run : goal.returns-then-no_run
returns-then-no_run c = run_none _ _ _ _ c.if-out-lt-LINE.false (sym c.no_run.ensures ∙ c.if-no_run.true)

pub returns : goal.returns
returns c =
    run-whole _ _ _ _ c.if-out-lt-LINE.false (sym c.no_run.ensures ∙ c.if-no_run.false) (handed_back c.run.ensures (search rules))
