-- What the loop of `place::place_of` keeps: what is left of the text stands, after the digits so far, for what all of it does. Assumes nothing.
use Rattle.text.proofs.Places.{Reading}
use Rattle.text.proofs.place.place_of.Given as goal

abbrev pub invariant-loop-b : goal.invariant-loop-b
invariant-loop-b l = Reading l.text l.n l.b-index
