-- What the loop of `Reader::take` keeps: what is left of the chunk makes what the whole chunk makes. Assumes nothing.
use Rattle.hexline.proofs.Steps.{Reading}
use Rattle.hexline.proofs.Reader.take.Given as goal

abbrev pub invariant-loop-at : goal.invariant-loop-at
invariant-loop-at l = Reading l.chunk (record { frame = l.initial.frame; count = l.initial.count; number = l.number }) (record { frame = l.frame; count = l.count; number = l.number }) l.at
