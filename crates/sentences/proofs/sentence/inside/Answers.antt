-- `sentence::inside` meets its contract: three numbers, each after its words. Assumes nothing.
use Rattle.sentences.specs.Sentence.{inside_text}
use Rattle.text.proofs.Puts.{puts_then}
use Rattle.sentences.proofs.sentence.inside.Goals as goal

pub returns : goal.returns
unfolding inside_text
returns c =
    rw (← c.saturating_sub.ensures) (puts_then (puts_then (puts_then c.labelled.ensures c.labelled-2.ensures) c.labelled-3.ensures) c.byte.ensures)
