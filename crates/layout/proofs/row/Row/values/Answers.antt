-- A frame has at most 504 values. Assumes nothing.
use native.Mathlib.Omega.{arith}
use Rattle.layout.proofs.Places.{few_pairs}
use Rattle.layout.proofs.row.Row.values.Goals as goal

pub overflow_mul-result : goal.overflow_mul-result
overflow_mul-result c = rw c.args.self.rule.slots_is (let few = few_pairs c.args.self.receivers in omega arith)

pub overflow_mul-result-2 : goal.overflow_mul-result-2
overflow_mul-result-2 c = rw c.args.self.rule.slots_is (let few = few_pairs c.args.self.receivers in omega arith)
