-- `held::hold` meets its contract: what is left, and zeros behind it. Assumes nothing.
use mathlib.Core.Path.{◌≡◌, ap, ◌∙◌}
use native.Mathlib.Omega.{arith}
use Prim.Native.Nat.{◌+◌, ◌-◌}
use borrow.Rule.Slice.PartMut.{mid_len}
use lib.ListN.{length, replicate}
use borrow.Author.Rules.{rules}
use Rattle.stream_door.proofs.Rest.{cleared, nothing_cleared}
use Rattle.stream_door.proofs.held.hold.Goals as goal

pub returns-then-end-count : goal.returns-then-end-count
returns-then-end-count c =
    let given = c.args in
    let long : length given.held.now ≡ 514 = search rules in
    let left = given.count + length given.piece.now - given.place in
    let filled : c.fill.new.self ≡ replicate (given.count - left) 0 =
    c.fill.ensures.after (λ y same. same) ∙ ap (λ n. replicate n 0) (mid_len left given.count c.lay.new.held (omega arith)) in
    rw c.lay.ensures
    (cleared given.held.now given.piece.now given.count given.place long (omega arith) (omega arith) (omega arith) c.requires.clean.1 c.fill.new.self filled (omega arith))

pub returns-else-end-count : goal.returns-else-end-count
returns-else-end-count c =
    let given = c.args in
    let long : length given.held.now ≡ 514 = search rules in
    c.lay.ensures
    ∙ nothing_cleared given.held.now given.piece.now given.count given.place long (omega arith) (omega arith) (omega arith) c.requires.clean.1 (omega arith)
