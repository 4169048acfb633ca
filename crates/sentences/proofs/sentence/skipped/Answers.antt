-- `sentence::skipped` meets its contract: the place, the byte of a sync, which sync, and the byte's value. Assumes nothing.
use Rattle.sentences.specs.Sentence.{skipped_text}
use Rattle.text.proofs.Puts.{puts_then}
use Rattle.sentences.proofs.sentence.skipped.Goals as goal

pub returns : goal.returns
unfolding skipped_text
returns c =
    let nth = rw c.from.ensures at c.labelled-2.ensures in
    let value = rw (c.byte_after.ensures, c.from-2.ensures) at c.wrong.ensures in
    puts_then (puts_then (puts_then c.labelled.ensures nth) c.put.ensures) value
