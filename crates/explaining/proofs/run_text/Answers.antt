-- `run_text` meets its contract: the line of the run that begins there. Assumes nothing.
use Rattle.sentences.proofs.Inside.{run_inside}
use Rattle.explaining.proofs.Said.{line_said}
use Rattle.explaining.proofs.run_text.Goals as goal

pub returns-clause-count_in_bounds : goal.returns-clause-count_in_bounds
returns-clause-count_in_bounds c = run_inside _ _ _ _ _ _ c.run_line.ensures

pub returns-clause-out_after : goal.returns-clause-out_after
returns-clause-out_after c = (line_said _ _ _ c.run_from-run.result c.run_from-run.ensures c.run_line.ensures).1
