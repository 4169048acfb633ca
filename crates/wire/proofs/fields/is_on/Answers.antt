-- `fields::is_on` meets its contract: a byte has no bit above 7. Assumes nothing.
use Rattle.wire.proofs.Pack.{past_byte}
use Rattle.wire.proofs.fields.is_on.Goals as goal

pub returns-then-k-gt7 : goal.returns-then-k-gt7
returns-then-k-gt7 c = rw (past_byte _ 0 c.args.k c.ranges.c.fits c.if-k-gt7.true)
