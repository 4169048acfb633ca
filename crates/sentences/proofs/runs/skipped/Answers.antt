-- `runs::skipped` meets its contract: the places, the byte of a sync, where that sync stands, and the byte's value. Assumes nothing.
use Rattle.sentences.specs.Run.{run_skipped}
use Rattle.text.proofs.Puts.{puts_then}
use Rattle.sentences.proofs.runs.skipped.Goals as goal

pub returns : goal.returns
unfolding run_skipped
returns c =
    let nth = rw c.from.ensures at c.number.ensures in
    let value = rw (c.byte_after.ensures, c.from-2.ensures) at c.wrong.ensures in
    puts_then (puts_then (puts_then c.subject.ensures nth) c.labelled.ensures) value
