-- `host_samples::read_slots` meets its contract: after t turns the first t slots are read. Assumes nothing.
use mathlib.Core.Path.{◌≡◌, refl, sym, ap, ◌∙◌}
use mathlib.Core.List.{[], ◌++◌}
use Prim.Native.Nat.{◌/◌, ◌<◌}
use native.Mathlib.Omega.{arith}
use lib.ListN.{length, get_or, drop}
use Rattle.wire.specs.Lists.{tab}
use Rattle.host_samples.proofs.Filling.{turned, filled_more}
use Rattle.host_samples.proofs.Slots.{slot_numbers, chunk_at, slot_by_slot}
use Rattle.host_samples.proofs.Lengths.{lengths, all_read, none_read}
use Rattle.host_samples.specs.Samples.{numbers, slot_number}
use Rattle.host_samples.proofs.read_slots.Goals as goal

pub loop-t-init : goal.loop-t-init
loop-t-init c =
    let long = lengths _ _ (sym c.whole.ensures ∙ c.if-whole.true) in
    turned 4 _ _ 63 0 _ (λ s. refl) long.1 (omega arith) refl

pub slice_bounds-read_slot-end : goal.slice_bounds-read_slot-end
slice_bounds-read_slot-end c =
    let long = lengths _ _ (sym c.whole.ensures ∙ c.if-whole.true) in
    omega (arith, long.0, long.1, c.as_chunks.ensures.front_len)

pub loop-t-preserved : goal.loop-t-preserved
loop-t-preserved c =
    let payload = c.args.payload.now in
    let turn = c.loop-t in
    let inv = turn.invariant in
    let below : turn.t < length payload / 8 = omega (arith, c.as_chunks.ensures.front_len) in
    let part : c.read_slot.new.out ≡ slot_numbers payload turn.t =
    c.read_slot.ensures
    ∙ ap (λ s. tab 4 (slot_number s)) (ap (λ l. get_or l turn.t []) c.as_chunks.ensures.front ∙ chunk_at 8 (length payload / 8) payload turn.t below) in
    turned 4 _ _ 63 _ _ (λ s. refl) inv.room (omega (arith, below, (lengths _ _ (sym c.whole.ensures ∙ c.if-whole.true)).0))
    (rw (part, inv.same) (filled_more 4 (slot_numbers payload) c.args.audio.now (λ s. refl) turn.t))

pub returns-after-loop-t : goal.returns-after-loop-t
unfolding numbers
returns-after-loop-t c =
    let turn = c.loop-t in
    let both = sym c.whole.ensures ∙ c.if-whole.true in
    let given = c.args in
    let last : turn.t ≡ 63 = omega (arith, turn.invariant.turns, c.as_chunks.ensures.front_len, (lengths _ _ both).0) in
    rw last at turn.invariant.same
    ∙ ap (λ l. l ++ drop 252 given.audio.now) (slot_by_slot 63 given.payload.now)
    ∙ sym (all_read _ _ both)

pub returns-else-whole : goal.returns-else-whole
returns-else-whole c = sym (none_read _ _ (sym c.whole.ensures ∙ c.if-whole.false))
