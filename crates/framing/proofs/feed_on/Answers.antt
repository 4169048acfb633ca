-- `feed_on` meets its contract: it feeds the bytes of the read, and the lines are those of the frames that came of it. Assumes nothing.
use Rattle.std.proofs.Common.{rules, ap, ◌∙◌, arith}
use Rattle.stream.specs.Feed.{Outcome}
use Rattle.stream.specs.Record.{sound_of}
use Rattle.stream.proofs.Sound.{next-sound}
use Rattle.framing.proofs.Passed.{passed, full, waiting_inside}
use Rattle.framing.proofs.feed_on.Goals as goal

pub returns-in_default-clause-passes : goal.returns-in_default-clause-passes
returns-in_default-clause-passes c = full _ _ _ _ c.args.given.sound (record { short = c.requires; whole = omega arith; wide = omega arith }) _ _ c.in_default.ensures

pub invariant_of-result : goal.invariant_of-result
invariant_of-result c =
    let within =
    waiting_inside _ _ _ _
    (passed _ _ _ _ c.args.given.sound (record { short = c.requires; whole = omega arith; wide = omega arith }) _ _ _ _ c.in-Ok.ensures c.feed.auto.output c.lines-waiting.ensures) in
    record {
      sound = ap (λ (o : Outcome). sound_of o.next) c.in-Ok.ensures ∙ next-sound c.args.given.stream c.args.bytes.now c.args.buffers.now.frames (search rules) c.args.given.sound;
      inside = omega (arith, c.lines-waiting.auto.out);
    }

pub returns-clause-passes : goal.returns-clause-passes
returns-clause-passes c =
    passed _ _ _ _ c.args.given.sound (record { short = c.requires; whole = omega arith; wide = omega arith }) _ _ _ _ c.in-Ok.ensures c.feed.auto.output c.lines-waiting.ensures
