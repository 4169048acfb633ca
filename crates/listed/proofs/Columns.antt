-- What the columns of a frame's row are, read off its bytes: with sync and no level above 4,095 the answer is 0, and address, DOT, DASH and
-- PTT are the bits of C0; with sync and such a level the answer is 8; without sync it is 6. Assumes nothing.
use mathlib.Core.Path.{◌≡◌, refl, ap, ◌∙◌}
use mathlib.Core.Bool.{true, false}
use mathlib.Core.List.{List}
use Prim.Native.Nat.{ℕ}
use native.Mathlib.Omega.{arith}
use borrow.Author.Tests.{eq-eqb}
use lib.IntN.{pos}
use lib.ListN.{length, replicate, drop_of_length-le}
use Rattle.std.specs.Prelude.{Err}
use Rattle.wire.specs.Answers.{Accepted}
use Rattle.wire.specs.Sync.{sync_at, no_sync}
use Rattle.wire.specs.Every.{all_zero}
use Rattle.wire.specs.declared.Cause.{Cause}
use Rattle.wire.specs.declared.Refusal.TheVariants.{Reserved}
use Rattle.layout.specs.Slots.{slots, padding}
use Rattle.radio_status.specs.Record.{fresh_status}
use Rattle.radio_status.specs.Words.{address, dot_of, dash_of, ptt_of, applied}
use Rattle.radio_status.specs.declared.record.Status.{Status}
use Rattle.radio_status.specs.declared.words.Word.{Word}
use Rattle.radio_status.specs.declared.words.Word.TheVariants.{Input, Forward, Reverse, Supply, Board, Unlisted}
use Rattle.radio.specs.Read.{Reading, byte, word, padded, level_answer, frame_answer, answer_of}
use Rattle.radio.proofs.Cases.{all_good, frame_refused, levels_left, read_taken, read-refused}
use Rattle.hexline.specs.Lines.{a_frame}
use Rattle.hexline.specs.Printed.{text_of}
use Rattle.listed.specs.Rows.{reading_of, row_text}

-- the keys after any word are those of C0
keys : (c0 : ℕ) (w : Word) (s : Status) → ((applied c0 w s).dot ≡ dot_of c0) × ((applied c0 w s).dash ≡ dash_of c0) × ((applied c0 w s).ptt ≡ ptt_of c0)
unfolding applied
keys c0 (Input w) s = (refl, refl, refl)
keys c0 (Forward l) s = (refl, refl, refl)
keys c0 (Reverse l) s = (refl, refl, refl)
keys c0 (Supply l) s = (refl, refl, refl)
keys c0 (Board w) s = (refl, refl, refl)
keys c0 (Unlisted a) s = (refl, refl, refl)

-- the row of a reading
abbrev shows : ℕ → List ℕ → Reading → List ℕ
shows number frame r = text_of number r.answer (address (byte frame 3)) r.status.dot r.status.dash r.status.ptt

module _ (number : ℕ) (frame : List ℕ) (whole : length frame ≡ 512) where
  no_padding : padded 1 frame ≡ true
  unfolding padding
  no_padding = ap all_zero (drop_of_length-le frame {i = 512} (omega arith))

  before_levels : sync_at frame 0 ≡ true → answer_of frame 1 126 63 ≡ level_answer frame
  unfolding slots
  before_levels synced = levels_left frame 1 126 63 refl (all_good frame 1 126 63 whole (omega arith) (omega arith) synced no_padding)

  pub with_sync : sync_at frame 0 ≡ true → level_answer frame ≡ Accepted
      → row_text number (a_frame frame) ≡ text_of number Accepted (address (byte frame 3)) (dot_of (byte frame 3)) (dash_of (byte frame 3)) (ptt_of (byte frame 3))
  unfolding row_text reading_of slots
  with_sync synced leveled =
      let is : answer_of frame 1 126 63 ≡ Accepted = before_levels synced ∙ leveled in
      let reads = ap (λ o. shows number frame o.reading) (read_taken frame 1 (replicate 126 (pos 0)) (replicate 63 (pos 0)) fresh_status is) in
      let told = keys (byte frame 3) (word frame) fresh_status in
      reads ∙ (λ i. text_of number Accepted (address (byte frame 3)) (told.0 i) (told.1 i) (told.2 i))

  pub with_level : (cause : Cause) → sync_at frame 0 ≡ true → level_answer frame ≡ Err (Reserved cause) → row_text number (a_frame frame) ≡ text_of number (Err (Reserved cause)) 0 false false false
  unfolding row_text reading_of slots text_of
  with_level cause synced above =
      ap (λ o. shows number frame o.reading) (read-refused frame 1 (replicate 126 (pos 0)) (replicate 63 (pos 0)) fresh_status (Err (Reserved cause)) (before_levels synced ∙ above) refl)

  no_sync_first : sync_at frame 0 ≡ false → frame_answer frame 1 126 63 ≡ Err (no_sync frame)
  unfolding frame_answer slots
  no_sync_first missing = rw (eq-eqb (length frame) 512 whole, missing)

  pub without_sync : sync_at frame 0 ≡ false → row_text number (a_frame frame) ≡ text_of number (Err (no_sync frame)) 0 false false false
  unfolding row_text reading_of slots text_of
  without_sync missing =
      let is : answer_of frame 1 126 63 ≡ Err (no_sync frame) = frame_refused frame 1 126 63 refl (no_sync frame) (no_sync_first missing) in
      ap (λ o. shows number frame o.reading) (read-refused frame 1 (replicate 126 (pos 0)) (replicate 63 (pos 0)) fresh_status (Err (no_sync frame)) is refl)
