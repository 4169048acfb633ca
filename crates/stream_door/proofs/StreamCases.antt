-- The stream's calls through the door, in their cases. Assumes nothing.
use mathlib.Core.Path.{◌≡◌, sym, ap, ◌∙◌}
use mathlib.Core.Bool.{Bool, cond, true, false}
use mathlib.Core.List.{List}
use Prim.Native.Nat.{ℕ}
use lib.Seq.{sets}
use Rattle.std.specs.Prelude.{Err}
use Rattle.wire.proofs.Cases.{by_test}
use Rattle.wire.specs.Answers.{Answer, Accepted, number_of}
use Rattle.wire.specs.declared.Refusal.TheVariants.{BadState}
use Rattle.stream.specs.Feed.{feed_of}
use Rattle.stream.specs.Record.{fresh_of, sound_of}
use Rattle.cells.specs.Cells.{bad_state}
use Rattle.stream.specs.declared.Stream.{Stream}
use Rattle.stream_cells.proofs.Cases.{put_few, put_room}
use Rattle.stream_cells.specs.Stream.{lent, stream_of, counts_of, put_in}
use Rattle.stream_door.specs.Stream.{left, fresh_in, sound_in, gave, shown, feed_in}

module _ (counts held : List ℕ) where
  pub fresh_bad : lent counts held ≡ false → fresh_in counts held ≡ left bad_state counts held
  unfolding fresh_in
  fresh_bad bad = rw bad

  pub fresh_good : lent counts held ≡ true → fresh_in counts held ≡ left 0 (sets counts 0 (counts_of fresh_of)) (sets held 0 fresh_of.held)
  unfolding fresh_in
  fresh_good good = rw good

  -- what putting a fresh record leaves
  pub fresh_left : (s : Stream) (a : Answer) (c h : List ℕ) → s ≡ fresh_of → a ≡ cond (lent counts held) Accepted (Err BadState) → (c, h) ≡ put_in s counts held → left (number_of a) c h ≡ fresh_in counts held
  fresh_left s a c h fresh due is =
      by_test (lent counts held)
      (λ room.
      let answer : a ≡ Accepted = due ∙ rw room in
      ap (λ (p : List ℕ × List ℕ). left (number_of a) p.0 p.1) (is ∙ put_room counts held s room)
      ∙ ap (λ (b : Answer). left (number_of b) (sets counts 0 (counts_of s)) (sets held 0 s.held)) answer
      ∙ ap (λ (r : Stream). left 0 (sets counts 0 (counts_of r)) (sets held 0 r.held)) fresh
      ∙ sym (fresh_good room))
      (λ few.
      let answer : a ≡ Err BadState = due ∙ rw few in
      ap (λ (p : List ℕ × List ℕ). left (number_of a) p.0 p.1) (is ∙ put_few counts held s few)
      ∙ ap (λ (b : Answer). left (number_of b) counts held) answer
      ∙ sym (fresh_bad few))

  pub sound_bad : lent counts held ≡ false → sound_in counts held ≡ bad_state
  unfolding sound_in
  sound_bad bad = rw bad

  pub sound_good : lent counts held ≡ true → (sound : Bool) → sound_of (stream_of counts held) ≡ sound → sound_in counts held ≡ cond sound 0 bad_state
  unfolding sound_in
  sound_good good sound is = rw (good, is)

  module _ (piece output : List ℕ) where
    pub feed_bad : lent counts held ≡ false → feed_in counts held piece output ≡ gave bad_state counts held output
    unfolding feed_in
    feed_bad bad = rw bad

    pub feed_good : lent counts held ≡ true → feed_in counts held piece output ≡ shown counts held (feed_of (stream_of counts held) piece output)
    unfolding feed_in
    feed_good good = rw good
