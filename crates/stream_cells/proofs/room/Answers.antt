-- `stream_cells::room` meets its contract: both parts are there. Assumes nothing.
use mathlib.Core.Path.{sym}
use Rattle.stream_cells.proofs.Cases.{there_are}
use Rattle.stream_cells.proofs.room.Goals as goal

pub returns-clause-some : goal.returns-clause-some
returns-clause-some c =
    sym (there_are c.args.counts.now c.args.held.now c.in_ok-first_chunk.ensures.cases.enough c.in_ok-first_chunk-2.ensures.cases.enough)
