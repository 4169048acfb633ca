-- `feed_of`, case by case, and what an accepted call tells. Assumes nothing.
use mathlib.Core.Path.{◌≡◌, refl, sym, ap, ◌∙◌}
use mathlib.Core.Bool.{true, false, true≢false}
use mathlib.Core.List.{List, ◌++◌}
use Prim.Native.Nat.{ℕ, ◌+◌, ◌^◌, ◌<◌, ◌≤◌}
use borrow.Author.Tests.{lt-ltb, le-ltb, ltb-false, not-false, ne_eqb}
use lib.Dec.{eqb}
use lib.ListN.{length}
use Rattle.wire.proofs.Cases.{by_test}
use Rattle.wire.proofs.First.{accepted_none}
use Rattle.std.specs.Prelude.{Err}
use Rattle.wire.specs.Answers.{Answer, Accepted, first, number_of, accepts}
use Rattle.wire.specs.declared.Refusal.{Refusal}
use Rattle.wire.specs.declared.Refusal.TheVariants.{StreamFull}
use Rattle.wire.proofs.First.{accepts-only, only_accepted}
use Rattle.stream.proofs.Records.{numbers, whole, Sound, sound_told, sound_shown}
use Rattle.stream.specs.Feed.{Outcome, refusals, refused, accepted, feed_of}
use Rattle.reading.specs.Reading.{reading}
use Rattle.stream.specs.Record.{sound_of, held_bytes}
use Rattle.stream.specs.declared.Counts.{Counts}
use Rattle.stream.specs.declared.Stream.{Stream}

-- a call that no test refuses
pub record Passes (given : Stream) (piece output : ℕ) : Type 0 where
  pub sound : Sound given
  pub short : piece ≤ 4096
  pub room : 4096 ≤ output
  pub fits : given.total + piece ≤ 2 ^ 48

-- the answer, by the lengths of the piece and of the output
module _ (given : Stream) (piece output : ℕ) where
  abbrev pub answer : Answer
  answer = first (refusals given piece output)

  module _ (sound : sound_of given ≡ true) (short : piece ≤ 4096) (room : 4096 ≤ output) where
    pub too_many : 2 ^ 48 < given.total + piece → answer ≡ Err StreamFull
    too_many full = rw (sound, le-ltb 4096 piece short, le-ltb output 4096 room, lt-ltb (2 ^ 48) (given.total + piece) full)

    pub passed : given.total + piece ≤ 2 ^ 48 → answer ≡ Accepted
    passed fits = rw (sound, le-ltb 4096 piece short, le-ltb output 4096 room, le-ltb (2 ^ 48) (given.total + piece) fits)

  -- the answer that the record's numbers and its cells give apart
  pub of_numbers : (n : Counts) {a : Answer} → n ≡ numbers given → a ≡ first (refusals (whole n given.held) piece output) → a ≡ answer
  of_numbers n same is = is ∙ ap (λ m. first (refusals (whole m given.held) piece output)) same

  pub passes : answer ≡ Accepted → Passes given piece output
  passes e =
      let none = accepted_none (refusals given piece output) refl e in
      record {
        sound = sound_told given (not-false (sound_of given) none.0);
        short = ltb-false 4096 piece none.1.0;
        room = ltb-false output 4096 none.1.1.0;
        fits = ltb-false (2 ^ 48) (given.total + piece) none.1.1.1.0;
      }

module _ (given : Stream) (piece output : List ℕ) where
  pub refuses : accepts (answer given (length piece) (length output)) ≡ false → feed_of given piece output ≡ refused (answer given (length piece) (length output)) given output
  unfolding feed_of
  refuses e = rw e

  pub refused_by : (refusal : Refusal) → answer given (length piece) (length output) ≡ Err refusal → feed_of given piece output ≡ refused (Err refusal) given output
  refused_by refusal is =
      refuses (rw is (ne_eqb (number_of (Err refusal)) 0 (λ none. cc (only_accepted (Err refusal) none)))) ∙ rw is

  pub stream_full : sound_of given ≡ true → length piece ≤ 4096 → 4096 ≤ length output → 2 ^ 48 < given.total + length piece → feed_of given piece output ≡ refused (Err StreamFull) given output
  stream_full sound short room full =
      let is = too_many given (length piece) (length output) sound short room full in
      refuses (rw is) ∙ rw is

  pub fed : Passes given (length piece) (length output) → feed_of given piece output ≡ accepted given (length piece) (reading (held_bytes given ++ piece)) output
  unfolding feed_of
  fed p = rw (passed given (length piece) (length output) (sound_shown given p.sound) p.short p.room p.fits)

  -- what holds of every refusal, and of an accepted call that no test refuses, holds of every call
  pub by_outcome : (P : Outcome → Type 0) → ((refusal : Answer) → eqb (number_of refusal) 0 ≡ false → P (refused refusal given output)) → (Passes given (length piece) (length output) → P (accepted given (length piece) (reading (held_bytes given ++ piece)) output)) → P (feed_of given piece output)
  unfolding feed_of
  by_outcome P at-refusal at-accepted =
      let answer = answer given (length piece) (length output) in
      by_test (eqb (number_of answer) 0) (λ e. rw e (at-accepted (passes given (length piece) (length output) (accepts-only answer e)))) (λ e. rw e (at-refusal answer e))

  pub accepted_passes : (feed_of given piece output).answer ≡ Accepted → Passes given (length piece) (length output)
  accepted_passes =
      by_outcome (λ o. o.answer ≡ Accepted → Passes given (length piece) (length output))
      (λ refusal some e. absurd (true≢false (sym (ap (λ a. eqb (number_of a) 0) e) ∙ some)))
      (λ passed e. passed)
