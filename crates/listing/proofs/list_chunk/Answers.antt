-- `list_chunk` meets its contract: each call reads at least one byte of the chunk. Assumes nothing.
use Rattle.std.proofs.Common.{◌≡◌, ◌<◌, length, ap, arith, rules, length-drop}
use Rattle.std.proofs.lemmas.Bool.Decides.{nat_tests}
use Rattle.std.proofs.lemmas.List.{nil_from_length}
use Rattle.listing.proofs.Chunk.{advances, left_over, turn, ends, ends_written}
use Rattle.listing.proofs.list_chunk.Goals as goal

pub slice_bounds-rest-count : goal.slice_bounds-rest-count
slice_bounds-rest-count g c =
    let more : 0 < length c.loop-rest.rest.now = grind (arith, nat_tests) in
    (advances _ _ _ c.take-taken.ensures more).1

pub slice_bounds-rest-start : goal.slice_bounds-rest-start
slice_bounds-rest-start g c =
    let more : 0 < length c.loop-rest.rest.now = grind (arith, nat_tests) in
    let within = (advances _ _ _ c.take-taken.ensures more).1 in
    search rules

pub loop-rest-smaller : goal.loop-rest-smaller
loop-rest-smaller g c =
    let more : 0 < length c.loop-rest.rest.now = grind (arith, nat_tests) in
    let used = advances _ _ _ c.take-taken.ensures more in
    omega (arith, used, ap length (left_over _ _ _ c.take-taken.ensures more), length-drop c.take-taken.result.used c.loop-rest.rest.now)

pub loop-rest-preserved : goal.loop-rest-preserved
loop-rest-preserved g c =
    let more : 0 < length c.loop-rest.rest.now = grind (arith, nat_tests) in
    turn _ _ _ _ _ _ _ _ c.loop-rest.invariant c.take-taken.result _ _ _ c.take-taken.ensures (left_over _ _ _ c.take-taken.ensures more)
    c.in_ok-add.ensures.row c.in_ok-add.ensures.written

pub returns-clause-lists : goal.returns-clause-lists
returns-clause-lists g c =
    let none : length c.loop-rest.rest.now ≡ 0 = grind (arith, nat_tests) in
    ends _ _ _ _ _ _ _ _ c.loop-rest.invariant (nil_from_length _ none)

pub returns-clause-written : goal.returns-clause-written
returns-clause-written g c =
    let none : length c.loop-rest.rest.now ≡ 0 = grind (arith, nat_tests) in
    ends_written _ _ _ _ _ _ _ _ c.loop-rest.invariant (nil_from_length _ none)
