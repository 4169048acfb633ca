-- `host_samples::write_seven` meets its contract: after t turns the first t slots are written. Assumes nothing.
use mathlib.Core.Path.{◌≡◌, ap, ◌∙◌}
use mathlib.Core.List.{[]}
use Prim.Native.Nat.{◌/◌, ◌<◌}
use native.Mathlib.Omega.{arith}
use borrow.Author.Rules.{rules}
use lib.ListN.{length, get_or}
use Rattle.std.specs.Simd.{first_chunks}
use Rattle.host_samples.proofs.Filling.{turned, all_filled, filled_more}
use Rattle.host_samples.proofs.Slots.{length_pairs, chunk_at, slots_of, group_by_group}
use Rattle.host_samples.specs.Samples.{pairs_from}
use Rattle.host_samples.proofs.write_seven.Goals as goal

pub loop-t-preserved : goal.loop-t-preserved
loop-t-preserved c =
    let numbers = c.args.numbers in
    let turn = c.loop-t in
    let inv = turn.invariant in
    let long : length numbers ≡ 28 = search rules in
    let below : turn.t < 7 = omega (arith, c.as_chunks.ensures.front_len) in
    let part : c.write_slot.new.slot ≡ slots_of 1 numbers turn.t =
    c.write_slot.ensures
    ∙ ap (pairs_from 4) (ap (λ l. get_or l turn.t []) c.as_chunks.ensures.front ∙ ap (λ n. get_or (first_chunks 4 (n / 4) numbers) turn.t []) long ∙ chunk_at 4 7 numbers turn.t below) in
    turned 8 _ _ 7 _ _ (λ s. length_pairs 4 _) inv.room (omega arith)
    (rw (part, inv.same) (filled_more 8 (slots_of 1 numbers) c.args.part.now (λ s. length_pairs 4 _) turn.t))

pub returns : goal.returns
returns c =
    let numbers = c.args.numbers in
    let turn = c.loop-t in
    let long : length numbers ≡ 28 = search rules in
    let last : turn.t ≡ 7 = omega (arith, turn.invariant.turns, c.as_chunks.ensures.front_len) in
    rw last at turn.invariant.same
    ∙ all_filled 8 (slots_of 1 numbers) c.args.part.now 7 c.requires
    ∙ group_by_group 7 1 numbers
