-- `held::lay` meets its contract: the end of the piece, or of what is held and then the piece. Assumes nothing.
use mathlib.Core.Path.{◌≡◌, ◌∙◌}
use native.Mathlib.Omega.{arith}
use lib.ListN.{length}
use borrow.Author.Rules.{rules}
use Rattle.stream_door.proofs.Rest.{from_both, from-piece}
use Rattle.stream_door.proofs.held.lay.Goals as goal

pub returns-then-count-place : goal.returns-then-count-place
returns-then-count-place c =
    let given = c.args in
    let long : length given.held.now ≡ 514 = search rules in
    c.put.ensures
    ∙ from-piece given.held.now given.piece.now given.count given.place long (omega arith) (omega arith) (omega arith) (omega arith)

pub returns : goal.returns
returns c =
    let given = c.args in
    let long : length given.held.now ≡ 514 = search rules in
    c.put-2.ensures
    ∙ rw c.shift.ensures
    (from_both given.held.now given.piece.now given.count given.place long (omega arith) (omega arith) (omega arith) (omega arith))
