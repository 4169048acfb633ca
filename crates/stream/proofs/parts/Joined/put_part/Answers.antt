-- `Joined::put_part` meets its contract: from what is held and then from the piece. Assumes nothing.
use mathlib.Core.Path.{◌∙◌}
use native.Mathlib.Omega.{arith}
use Rattle.stream.proofs.Joined.{put_across}
use Rattle.stream.proofs.parts.Joined.put_part.Goals as goal

pub returns : goal.returns
returns c =
    let given = c.args in
    let joined = given.self.now in
    c.put-3.ensures
    ∙ rw c.put-2.ensures
    (put_across joined.held.now joined.piece.now given.to.now given.at given.place given.count (omega arith) (omega arith) (omega arith) c.min-near.result c.min-near.ensures)
