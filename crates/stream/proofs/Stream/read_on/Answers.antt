-- `Stream::read_on` meets its contract: what a scan found makes the outcome. Assumes nothing.
use native.Mathlib.Omega.{arith}
use Rattle.stream.proofs.Advance.{rest_few}
use Rattle.stream.proofs.Stream.read_on.Goals as goal

pub left-requires : goal.left-requires
left-requires c = let scans = c.read-scanned.ensures in omega (arith, scans.in_list, rest_few scans)
