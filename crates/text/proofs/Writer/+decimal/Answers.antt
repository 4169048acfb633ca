-- `Writer::decimal` meets its contract: a last digit, after the number without it where that is not 0. Assumes nothing.
use mathlib.Core.Path.{◌≡◌}
use Prim.Native.Nat.{◌%◌}
use native.Mathlib.Omega.{arith}
use Rattle.text.proofs.Numbers.{one_digit_lem, last_digit}
use Rattle.text.proofs.Puts.{puts_then}
use Rattle.text.proofs.Writer.+decimal.Goals as goal
use Rattle.text.proofs.Writer.+decimal.Goals.{then-n-ge10, else-n-ge10}

pub returns : goal.returns
returns t c =
    elim c.if-n-ge10.branch [
      | then-n-ge10 w ↦ rw (last_digit c.args.n (omega arith)) (puts_then w.decimal.ensures (rw w.self-is at c.byte.ensures))
      | else-n-ge10 w ↦
          let alone : c.args.n % 10 ≡ c.args.n = omega arith in
          rw (one_digit_lem c.args.n (omega arith)) (rw (w.self-is, alone) at c.byte.ensures)
    ]
