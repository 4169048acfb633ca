-- The padding of a row is a part of its payload. Assumes nothing.
use native.Mathlib.Omega.{arith}
use Rattle.layout.proofs.Places.{whole_payload}
use Rattle.layout.proofs.row.Row.padding_start.Goals as goal

pub overflow_sub-result : goal.overflow_sub-result
overflow_sub-result c = let e = whole_payload c.args.self.receivers in omega (arith, c.args.self.rule.padding_is)
