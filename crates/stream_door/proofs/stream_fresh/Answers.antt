-- `stream_door::stream_fresh` meets its contract: no cells for a record, or a fresh one in them. Assumes nothing.
use Rattle.stream_door.proofs.StreamCases.{fresh_left}
use Rattle.stream_door.proofs.stream_fresh.Goals as goal

pub returns : goal.returns
returns c =
    let put = c.put_stream in
    fresh_left c.args.counts.now c.args.held.now c.fresh.result put.result put.new.counts put.new.held c.fresh.ensures put.ensures.answer put.ensures.cells
