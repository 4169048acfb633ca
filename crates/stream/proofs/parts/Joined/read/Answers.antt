-- `Joined::read` meets its contract: each turn is a good frame, and the places after it that begin none. Assumes nothing.
use native.Mathlib.Omega.{arith}
use Rattle.stream.proofs.Scanning.{scan_start, scan_more, scan_end}
use Rattle.stream.specs.Joined.{bytes}
use Rattle.stream.proofs.parts.Joined.read.Goals as goal

pub loop-place-init : goal.loop-place-init
loop-place-init c =
    let next = c.next_good-place in
    scan_start (bytes c.args.self.now) c.args.output.now next.result (next.ensures.lower_bound, (next.ensures.by_index, next.ensures.result_value))

pub loop-place-preserved : goal.loop-place-preserved
loop-place-preserved c =
    let next = c.next_good-place-in-loop-place in
    rw c.put_part.ensures
    (scan_more c.loop-place.invariant next.result (omega arith) (omega arith) (next.ensures.lower_bound, (next.ensures.by_index, next.ensures.result_value)))

pub returns : goal.returns
returns c = scan_end c.loop-place.invariant (omega arith)
