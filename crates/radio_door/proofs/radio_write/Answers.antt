-- `radio_door::radio_write` meets its contract: the record that the cells are is written. Assumes nothing.
use Rattle.radio_door.proofs.RadioCases.{write_made}
use Rattle.radio_door.proofs.radio_write.Goals as goal

pub returns : goal.returns
returns c = write_made _ _ _ _ _ _ _ c.in_ok-given.ensures _ _ c.write.ensures
