-- `held::shift` meets its contract: the bytes are moved, or stand at the start. Assumes nothing.
use mathlib.Core.Path.{◌≡◌, ◌∙◌}
use native.Mathlib.Omega.{arith}
use lib.ListN.{length}
use borrow.Author.Rules.{rules}
use Rattle.stream_door.proofs.Rest.{shifted, stays}
use Rattle.stream_door.proofs.held.shift.Goals as goal

pub returns-then-place-gt0 : goal.returns-then-place-gt0
returns-then-place-gt0 c =
    let long : length c.args.held.now ≡ 514 = search rules in
    c.copy_within.ensures.after ∙ shifted c.args.held.now c.args.place c.args.end (omega arith) (omega arith)

pub returns-else-place-gt0 : goal.returns-else-place-gt0
returns-else-place-gt0 c =
    let long : length c.args.held.now ≡ 514 = search rules in
    stays c.args.held.now c.args.place c.args.end (omega arith) (omega arith) (omega arith)
