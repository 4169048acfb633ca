-- `read` meets its contract: a row that is given was not refused by any test of the whole. Assumes nothing.
use Rattle.transfer.proofs.WithRow.{row_ready}
use Rattle.transfer.proofs.read.Goals as goal

pub read_frames-requires : goal.read_frames-requires
read_frames-requires c = row_ready _ _ _ _ _ c.in-Ok.ensures
