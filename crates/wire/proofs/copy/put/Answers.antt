-- `copy::put` meets its contract: after i turns the first i elements are copied. Assumes nothing.
use mathlib.Core.Path.{◌≡◌}
use native.Mathlib.Omega.{arith}
use lib.ListN.{length}
use lib.Seq.{sets-eq, take-length}
use Rattle.std.proofs.lemmas.List.Edits.{paste_more}
use Rattle.wire.proofs.Copies.{all_written}
use Rattle.wire.proofs.copy.put.Goals as goal

pub loop-i-preserved : goal.loop-i-preserved
loop-i-preserved g c =
    let given = c.args in
    let copied = paste_more given.to.now given.place given.from.now c.loop-i.i c.index-from-i.result (omega arith) (omega arith) in
    rw (c.loop-i.invariant, c.index-from-i.is) copied

pub returns : goal.returns
returns g c =
    let given = c.args in
    let to = given.to.now in
    let from = given.from.now in
    let at-end : c.loop-i.i ≡ length from = omega arith in
    rw (all_written to given.place from (omega arith), sets-eq from to given.place (omega arith), c.loop-i.invariant, at-end, take-length from)
