-- `host_samples::write_numbers` meets its contract: after t turns seven times t slots are written. Assumes nothing.
use mathlib.Core.Path.{◌≡◌, refl, sym, ap, ◌∙◌}
use mathlib.Core.List.{List, []}
use Prim.Native.Nat.{◌<◌, ◌≤◌, ◌/◌}
use native.Mathlib.Omega.{arith}
use lib.IntN.{ℤ}
use lib.ListN.{length, get_or, take}
use lib.Seq.{length-take-le}
use Rattle.std.specs.Simd.{first_chunks}
use Rattle.host_samples.proofs.Filling.{turned, all_filled, filled_more}
use Rattle.host_samples.proofs.Slots.{length_pairs, chunk_at, group_of_first, slots_of, group_by_group}
use Rattle.host_samples.proofs.Lengths.{lengths, all_written, none_written}
use Rattle.host_samples.specs.Samples.{pairs_from, payload_from}
use Rattle.host_samples.proofs.write_numbers.Goals as goal

pub slice_bounds-as_chunks-end : goal.slice_bounds-as_chunks-end
slice_bounds-as_chunks-end c =
    let long = lengths _ _ (sym c.whole.ensures ∙ c.if-whole.true) in
    omega (arith, length-take-le 252 c.args.audio.now long.1)

pub loop-t-init : goal.loop-t-init
loop-t-init c =
    let long = lengths _ _ (sym c.whole.ensures ∙ c.if-whole.true) in
    turned 56 _ _ 9 0 _ (λ t. length_pairs 28 _) (omega (arith, long.0)) (omega arith) refl

-- the numbers that are taken, in sevens of slots
nine_sevens : (audio : List ℤ) → 252 ≤ length audio → first_chunks 28 (length (take 252 audio) / 28) (take 252 audio) ≡ first_chunks 28 9 (take 252 audio)
nine_sevens audio room = ap (λ n. first_chunks 28 (n / 28) (take 252 audio)) (length-take-le 252 audio room)

pub slice_bounds-write_seven-end : goal.slice_bounds-write_seven-end
slice_bounds-write_seven-end c =
    let long = lengths _ _ (sym c.whole.ensures ∙ c.if-whole.true) in
    omega (arith, long.0, c.as_chunks.ensures.front_len, length-take-le 252 c.args.audio.now long.1)

pub loop-t-preserved : goal.loop-t-preserved
loop-t-preserved c =
    let audio = c.args.audio.now in
    let turn = c.loop-t in
    let inv = turn.invariant in
    let long = lengths _ _ (sym c.whole.ensures ∙ c.if-whole.true) in
    let below : turn.t < 9 = omega (arith, c.as_chunks.ensures.front_len, length-take-le 252 audio long.1) in
    let part : c.write_seven.new.part ≡ slots_of 7 audio turn.t =
    c.write_seven.ensures
    ∙ ap (pairs_from 28) (ap (λ l. get_or l turn.t []) (c.as_chunks.ensures.front ∙ nine_sevens audio long.1) ∙ chunk_at 28 9 (take 252 audio) turn.t below ∙ group_of_first 28 252 audio turn.t (omega arith)) in
    turned 56 _ _ 9 _ _ (λ s. length_pairs 28 _) inv.room (omega arith)
    (rw (part, inv.same) (filled_more 56 (slots_of 7 audio) c.args.payload.now (λ s. length_pairs 28 _) turn.t))

pub returns-after-loop-t : goal.returns-after-loop-t
unfolding payload_from
returns-after-loop-t c =
    let given = c.args in
    let turn = c.loop-t in
    let both = sym c.whole.ensures ∙ c.if-whole.true in
    let long = lengths _ _ both in
    let last : turn.t ≡ 9 = omega (arith, turn.invariant.turns, c.as_chunks.ensures.front_len, length-take-le 252 given.audio.now long.1) in
    rw last at turn.invariant.same
    ∙ all_filled 56 (slots_of 7 given.audio.now) given.payload.now 9 long.0
    ∙ group_by_group 9 7 given.audio.now
    ∙ sym (all_written _ _ both)

pub returns-else-whole : goal.returns-else-whole
returns-else-whole c = sym (none_written _ _ (sym c.whole.ensures ∙ c.if-whole.false))
