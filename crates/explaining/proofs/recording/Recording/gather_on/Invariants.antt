-- `gather_on` reads one piece after another: what is there is what was, and what the reads gave. Assumes nothing.
use Rattle.explaining.specs.Gathered.{so_far, Gathers}
use Rattle.explaining.proofs.recording.Recording.gather_on.Given as goal

abbrev pub invariant-loop : goal.invariant-loop
invariant-loop g l = Gathers (g.R.Read.remaining l.initial.input) (so_far l.initial.self) (g.R.Read.remaining l.input) (so_far l.self)
