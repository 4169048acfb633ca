-- One read's bytes: what the stream's call and the lines of its frames leave, and that they stay inside the text. Assumes nothing.
use mathlib.Core.Path.{◌≡◌, refl, ap, ◌∙◌}
use mathlib.Core.Bool.{Bool, true, false, cond}
use mathlib.Core.List.{List}
use Prim.Native.Nat.{ℕ, ◌≤◌}
use native.Mathlib.Omega.{arith}
use lib.ListN.{length}
use Rattle.std.specs.Prelude.{Ok, Err}
use Rattle.wire.specs.Answers.{Accepted}
use Rattle.wire.specs.declared.Refusal.{Refusal}
use Rattle.wire.specs.declared.Refusal.TheVariants.{StreamFull}
use Rattle.stream.specs.Feed.{Outcome, feed_of, gave as fed_with}
use Rattle.stream.specs.Record.{sound_of}
use Rattle.stream.specs.declared.Fed.{Fed}
use Rattle.stream.specs.declared.Stream.{Stream}
use Rattle.stream.proofs.Cut.{at_most_eight}
use Rattle.stream.proofs.Sound.{next-sound}
use Rattle.text.specs.Put.{gave, written}
use Rattle.text.proofs.Puts.{written-inside}
use Rattle.framed.specs.Hexadecimal.{lines_of}
use Rattle.framed.specs.Texts.{lines_written}
use Rattle.framed.proofs.Laying.{lines_fit}
use Rattle.framing.specs.Pass.{Buffers, Passing, Passes}
use Rattle.framing.proofs.OnlyFull.{only_full}

-- by what the call answered
accepted_fits : (fits : Bool) → Accepted ≡ cond fits Accepted (Err StreamFull) → true ≡ fits
accepted_fits true e = refl
accepted_fits false e = absurd (cc)

refused_full : (refusal : Refusal) (fits : Bool) → Err refusal ≡ cond fits Accepted (Err StreamFull) → false ≡ fits
refused_full refusal true e = absurd (cc)
refused_full refusal false e = refl

no_lines : (frames text : List ℕ) → gave 0 text ≡ written (lines_of 0 frames) text
unfolding lines_of
no_lines frames text = refl

module _ (given : Stream) (bytes frames text : List ℕ) where
  module _ (sound : sound_of given ≡ true) (room : Buffers bytes frames text) (frames' : List ℕ) where
    pub passed : (fed : Fed) (waiting : ℕ) (text' : List ℕ) → fed_with given (Ok fed) frames' ≡ feed_of given bytes frames → length frames' ≡ length frames
        → gave waiting text' ≡ lines_written frames' fed.frames text
        → Passes given bytes frames text (record { stream = fed.next; waiting = waiting; going = true }) text'
    passed fed waiting text' feeds same lines =
        let few : fed.frames ≤ 8 = omega (arith, ap (λ (o : Outcome). o.frames) feeds, at_most_eight given bytes frames) in
        record {
          stream_is = ap (λ (o : Outcome). o.next) feeds;
          text_is =
              lines ∙ lines_fit frames' fed.frames text few (omega (arith, room.whole)) (omega (arith, room.wide))
              ∙ ap (λ (o : Outcome). written (lines_of o.frames o.output) text) feeds;
          going_is = accepted_fits _ (ap (λ (o : Outcome). o.answer) feeds ∙ only_full given bytes frames sound room.short room.whole);
        }

    pub full : (refusal : Refusal) → fed_with given (Err refusal) frames' ≡ feed_of given bytes frames
        → Passes given bytes frames text (record { stream = given; waiting = 0; going = false }) text
    full refusal feeds =
        record {
          stream_is = ap (λ (o : Outcome). o.next) feeds;
          text_is = no_lines frames' text ∙ ap (λ (o : Outcome). written (lines_of o.frames o.output) text) feeds;
          going_is = refused_full refusal _ (ap (λ (o : Outcome). o.answer) feeds ∙ only_full given bytes frames sound room.short room.whole);
        }

  module _ {next : Passing} {after : List ℕ} (passes : Passes given bytes frames text next after) where
    -- the lines that wait are inside the text
    pub waiting_inside : next.waiting ≤ length after
    waiting_inside = written-inside (lines_of (feed_of given bytes frames).frames (feed_of given bytes frames).output) text next.waiting after passes.text_is

    pub still_sound : length given.held ≡ 514 → sound_of given ≡ true → sound_of next.stream ≡ true
    still_sound cells sound = ap sound_of passes.stream_is ∙ next-sound given bytes frames cells sound
