-- `list_chunk` is safe and ends: each call reads at least one byte of the chunk. Assumes nothing.
use Rattle.std.proofs.Common.{length}
use Rattle.listing.specs.Chunk.{buffer}
use Rattle.listing.proofs.Chunk.{Going}
use Rattle.listing.proofs.list_chunk.Given as goal

abbrev pub invariant-loop-rest : goal.invariant-loop-rest
invariant-loop-rest g l =
    Going l.chunk l.fn.reader (buffer l.initial.rows) l.rest l.next (buffer l.rows)
    (g.W.Write.contents l.initial.rows.output) (g.W.Write.contents l.rows.output)

abbrev pub decreases-loop-rest : goal.decreases-loop-rest
decreases-loop-rest g l = length l.rest
