-- `Builder::build` meets its contract: refused, or the head and the payload of the frame that is due. Assumes nothing.
use mathlib.Core.Path.{◌≡◌, refl, sym, ap, ◌∙◌}
use mathlib.Core.List.{◌++◌}
use Prim.Native.Nat.{◌-◌}
use native.Mathlib.Omega.{arith}
use borrow.Rule.Slice.PartMut.{put_mid}
use lib.ListN.{length, drop, length-drop}
use Rattle.std.proofs.lemmas.Result.{err_from_is_err_and}
use Rattle.wire.specs.Answers.{Accepted, first}
use Rattle.host.proofs.BuildCases.{accepted_ready, same_outcome, refused_by, build-accepted}
use Rattle.host_samples.proofs.Filling.{put_rest}
use Rattle.host_turn.proofs.Saying.{length_head}
use Rattle.host_turn.proofs.Sendable.{head_put}
use Rattle.host_samples.proofs.Slots.{payload_part}
use Rattle.host_samples.proofs.Lengths.{is_whole, all_written}
use Rattle.host.specs.Build.{refusals}
use Rattle.host_turn.specs.Sent.{head_of}
use Rattle.host.proofs.Builder.build.Goals as goal

pub returns-in_err-obstacle : goal.returns-in_err-obstacle
returns-in_err-obstacle c =
    let p = err_from_is_err_and c.from_residual.result c.from_residual.ensures.1 in
    rw (p.1, p.2) (sym (refused_by _ _ _ _ (sym c.obstacle.ensures ∙ c.in_err-obstacle.was)))

pub returns : goal.returns
returns c =
    let given = c.args in
    let b = given.self in
    let passed : first (refusals b (length given.audio.now) (length given.frame.now)) ≡ Accepted = sym c.obstacle.ensures ∙ c.in_ok-obstacle.was in
    let ready = accepted_ready _ _ _ passed in
    let frame = c.put_head.new.frame in
    let long : length frame ≡ 512 = c.put_head.auto.frame ∙ ready.long in
    let payload = c.write_numbers.new.payload in
    same_outcome
    refl
    (λ i. record { host = b.host; turn = c.turn_after.ensures i })
    (ap (λ f. put_mid 8 (length f - 8) f payload) (c.put_head.ensures ∙ head_put b.turn b.host given.frame.now ready.turn ready.range (omega arith))
    ∙ put_rest 8 (head_of b.turn b.host) (drop 8 given.frame.now) payload (length_head b.turn b.host)
    ∙ ap (λ p. head_of b.turn b.host ++ p) (c.write_numbers.ensures ∙ all_written _ _ (is_whole _ _ (rw (payload_part frame, length-drop 8 frame, long)) ready.fits)))
    ∙ sym (build-accepted _ _ _ passed)
