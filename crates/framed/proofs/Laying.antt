-- The two loops: a byte's digits after those before it, and a frame's line after those before it. Assumes nothing.
use mathlib.Core.Path.{◌≡◌, sym, ap, ◌∙◌}
use mathlib.Core.List.{List, [], ◌∷◌, ◌++◌, append_assoc}
use Prim.Native.Nat.{ℕ, ◌+◌, ◌-◌, ◌*◌, ◌/◌, ◌%◌, ◌<◌, ◌≤◌}
use native.Mathlib.Nat.{add-sub_cancel_left}
use native.Mathlib.Numerals.{add-one}
use native.Mathlib.Omega.{arith}
use borrow.Author.Tests.{lt-ltb, le-ltb}
use borrow.Rule.Slice.PartMut.{put_mid}
use lib.ListN.{length, get_or, take, drop, set, length-append, length-drop}
use lib.Seq.{sets-eq, take_all, drop-drop, length-take-le}
use Rattle.wire.proofs.Lists.{sets-all}
use Rattle.hexline.specs.Lines.{newline}
use Rattle.text.specs.Put.{gave, written}
use Rattle.text.specs.Put.{Put}
use Rattle.text.proofs.Puts.{put_none, put_one, put_then, put_length, put_whole}
use Rattle.framed.specs.Hexadecimal.{digit_of, digits_of, line_of, frame_at, lines_of}
use Rattle.framed.specs.Texts.{lines_written}
use Rattle.framed.proofs.Digits.{digits_more, digits-length}

module _ (out : List ℕ) (at : ℕ) where
  put_two : (a b : ℕ) → Put out at (a ∷ b ∷ []) (at + 2) (set (set out at a) (at + 1) b)
  put_two a b = record { place = omega arith; stored = rw (add-one at) }

  -- a part of the slice that was lent, and comes back as a text
  put_part : (text : List ℕ) → at + length text ≤ length out → Put out at text (at + length text) (put_mid at (length text) out text)
  put_part text room =
      record {
        place = omega arith;
        stored =
            sym (sets-eq text out at room ∙ append_assoc (take at out) text (drop (at + length text) out)
            ∙ ap (λ l. take at out ++ (text ++ l)) (sym (drop-drop (length text) at out)));
      }

-- ---- a line

pub line-length : (frame : List ℕ) → length frame ≡ 512 → length (line_of frame) ≡ 1025
unfolding line_of
line-length frame whole = rw (length-append (digits_of frame) (newline ∷ [])) (omega (arith, digits-length frame))

-- the digits of k bytes stand at the start of out
module _ (frame out : List ℕ) (k : ℕ) {mid : List ℕ} (so_far : Put out 0 (digits_of (take k frame)) (k * 2) mid) where
  pub byte_more : k < length frame
      → Put out 0 (digits_of (take (k + 1) frame)) ((k + 1) * 2) (set (set mid (k * 2) (digit_of (get_or frame k 0 / 16))) (k * 2 + 1) (digit_of (get_or frame k 0 % 16)))
  byte_more inside =
      let next : (k + 1) * 2 ≡ k * 2 + 2 = omega arith in
      rw (digits_more frame k inside, next) (put_then out 0 so_far (put_two mid (k * 2) (digit_of (get_or frame k 0 / 16)) (digit_of (get_or frame k 0 % 16))))

  pub line_ends : length frame ≡ 512 → length out ≡ 1025 → 512 ≤ k → k ≤ 512 → set mid 1024 newline ≡ line_of frame
  unfolding line_of
  line_ends whole long over within =
      let last : k ≡ 512 = omega arith in
      let digits : Put out 0 (digits_of frame) 1024 mid = rw (take_all k frame (omega arith), last) at so_far in
      (put_then out 0 digits (put_one mid 1024 newline)).stored ∙ sets-all out (line_of frame) (line-length frame whole ∙ sym long)

-- ---- lines

pub frame-length : (s : List ℕ) (t : ℕ) → t * 512 + 512 ≤ length s → length (frame_at s t) ≡ 512
frame-length s t inside = length-take-le 512 (drop (t * 512) s) (rw (length-drop (t * 512) s) (omega arith))

pub no_lines : (frames out : List ℕ) → Put out 0 (lines_of 0 frames) (0 * 1025) out
unfolding lines_of
no_lines frames out = put_none out 0

-- the lines of t frames stand at the start of out
module _ (frames out : List ℕ) (t : ℕ) {mid : List ℕ} (so_far : Put out 0 (lines_of t frames) (t * 1025) mid) where
  pub line_more : (line : List ℕ) → t * 512 + 512 ≤ length frames → t * 1025 + 1025 ≤ length out → line ≡ line_of (take (t * 512 + 512 - t * 512) (drop (t * 512) frames))
      → Put out 0 (lines_of (t + 1) frames) ((t + 1) * 1025) (put_mid (t * 1025) (t * 1025 + 1025 - t * 1025) mid line)
  unfolding lines_of
  line_more line inside room is =
      let own : line ≡ line_of (frame_at frames t) = is ∙ ap (λ n. line_of (take n (drop (t * 512) frames))) (add-sub_cancel_left (t * 512) 512) in
      let long : length line ≡ 1025 = ap length own ∙ line-length (frame_at frames t) (frame-length frames t inside) in
      let next : (t + 1) * 1025 ≡ t * 1025 + length line = omega arith in
      let width : t * 1025 + 1025 - t * 1025 ≡ length line = omega arith in
      rw (next, width, add-one t, ← own)
      (put_then out 0 so_far (put_part mid (t * 1025) line (omega (arith, put_length out 0 so_far))))

module _ (frames : List ℕ) (count : ℕ) (out : List ℕ) where
  pub too_many : 8 < count → gave 0 out ≡ lines_written frames count out
  unfolding lines_written
  too_many many = rw (lt-ltb 8 count many)

  module _ (few : count ≤ 8) where
    pub too_few : length frames < count * 512 → gave 0 out ≡ lines_written frames count out
    unfolding lines_written
    too_few less = rw (le-ltb 8 count few, lt-ltb (length frames) (count * 512) less)

    module _ (there : count * 512 ≤ length frames) where
      pub no_room : length out < count * 1025 → gave 0 out ≡ lines_written frames count out
      unfolding lines_written
      no_room short = rw (le-ltb 8 count few, le-ltb (length frames) (count * 512) there, lt-ltb (length out) (count * 1025) short)

      pub lines_fit : count * 1025 ≤ length out → lines_written frames count out ≡ written (lines_of count frames) out
      unfolding lines_written
      lines_fit room = rw (le-ltb 8 count few, le-ltb (length frames) (count * 512) there, le-ltb (length out) (count * 1025) room)

      pub lines_end : (t : ℕ) {after : List ℕ} → count * 1025 ≤ length out → count ≤ t → t ≤ count → Put out 0 (lines_of t frames) (t * 1025) after
          → gave (count * 1025) after ≡ lines_written frames count out
      lines_end t {after} room over within done =
          let last : t ≡ count = omega arith in
          let all : Put out 0 (lines_of count frames) (count * 1025) after = rw last at done in
          put_whole out (lines_of count frames) (count * 1025) after (omega (arith, all.place)) all ∙ sym (lines_fit room)
