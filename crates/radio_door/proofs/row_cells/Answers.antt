-- `radio_door::row_cells` meets its contract: no number of a row is above 504. Assumes nothing.
use native.Mathlib.Omega.{arith}
use Rattle.layout.proofs.Places.{whole_payload, few_slots}
use Rattle.radio_door.proofs.row_cells.Goals as goal

pub overflow_cast-result-2 : goal.overflow_cast-result-2
overflow_cast-result-2 c =
    let row = c.args.row in omega (arith, row.rule.slots_is, few_slots row.receivers)

pub overflow_cast-result-3 : goal.overflow_cast-result-3
overflow_cast-result-3 c =
    let row = c.args.row in omega (arith, row.rule.padding_is, whole_payload row.receivers)
