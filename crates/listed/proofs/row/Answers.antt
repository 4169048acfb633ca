-- `row` meets its contract: the place lies outside the slice, or the row stands at the start of the rest. Assumes nothing.
use Prim.Native.Nat.{◌+◌}
use native.Mathlib.Omega.{arith}
use borrow.Author.Tests.{lt-ltb}
use lib.ListN.{length}
use Rattle.hexline.specs.Text.{found_by}
use Rattle.listed.specs.Rows.{rows_of, row_at}
use Rattle.listed.proofs.Printing.{behind}
use Rattle.listed.proofs.row.Goals as goal

pub returns-then-out-at : goal.returns-then-out-at
unfolding row_at
returns-then-out-at c = rw (lt-ltb (length c.args.out.now) (c.args.at + 64) (omega arith))

pub returns : goal.returns
unfolding row_at
returns c =
    behind c.args.at (rows_of (found_by c.args.taken)) c.args.out.now _ _ (omega arith) c.start.ensures
