-- The row of a line, as the code prints it: a frame's from what its read gave, and one at a place of a slice as one at the start of the
-- rest. Assumes nothing.
use mathlib.Core.Path.{◌≡◌, sym, ap, ◌∙◌}
use mathlib.Core.List.{List, [], ◌∷◌, ◌++◌, append-nil}
use Prim.Native.Nat.{ℕ, ◌+◌, ◌-◌, ◌≤◌}
use native.Mathlib.Nat.{add-zero}
use native.Mathlib.Omega.{arith}
use borrow.Author.Tests.{lt-ltb, le-ltb}
use borrow.Rule.Slice.PartMut.{put_mid, Post-is}
use lib.IntN.{ℤ, pos}
use lib.ListN.{length, take, drop, replicate, take-append-drop, length-append, length-drop}
use lib.Seq.{take_all, drop-drop, drop-length, length-take-le}
use Rattle.std.specs.Prelude.{Result, Ok, Err}
use Rattle.wire.proofs.Cases.{by_order}
use Rattle.wire.specs.declared.Refusal.{Refusal}
use Rattle.layout.specs.Slots.{slots}
use Rattle.radio_status.specs.Record.{fresh_status}
use Rattle.radio_status.specs.Words.{address}
use Rattle.radio_status.specs.declared.record.Status.{Status}
use Rattle.radio.specs.Read.{Reading, Outcome, byte, read_of, gave as read}
use Rattle.radio.specs.declared.Reading.{Reading as Given}
use Rattle.hexline.specs.Lines.{Found, a_frame}
use Rattle.text.specs.Put.{Written, gave}
use Rattle.hexline.proofs.Columns.{refused_alone}
use Rattle.hexline.specs.Printed.{text_of, row_of, row_for}
use Rattle.hexline.specs.declared.print.Columns.{Columns}
use Rattle.hexline.specs.Text.{line_in, found_by}
use Rattle.hexline.specs.declared.Line.{Line}
use Rattle.hexline.specs.declared.Line.TheVariants.{Unfinished}
use Rattle.hexline.specs.declared.Taken.{Taken}
use Rattle.listed.specs.Rows.{reading_of, text_for, row_text, rows_of, printed, printed_at, row_at}

-- what is shown of a frame, from what the read gave
module _ (number : ℕ) (frame : List ℕ) (iq mic : List ℤ) (s : Status) (fresh : s ≡ fresh_status) where
  abbrev row_by : Reading → List ℕ
  row_by q = text_of number q.answer (address (byte frame 3)) q.status.dot q.status.dash q.status.ptt

  reads_as : (o : Outcome) → o ≡ read_of frame 1 (replicate 126 (pos 0)) (replicate 63 (pos 0)) s → row_by o.reading ≡ row_text number (a_frame frame)
  unfolding row_text reading_of slots
  reads_as o e = ap (λ (p : Outcome). row_by p.reading) (e ∙ ap (read_of frame 1 (replicate 126 (pos 0)) (replicate 63 (pos 0))) fresh)

  pub columns_read : (result : Result Given Refusal) (r : Given) → result ≡ Ok r → read s result iq mic ≡ read_of frame 1 (replicate 126 (pos 0)) (replicate 63 (pos 0)) s
      → text_for number (Ok (record { address = address (byte frame 3); dot = r.status.dot; dash = r.status.dash; ptt = r.status.ptt })) ≡ row_text number (a_frame frame)
  columns_read result r was e = reads_as (read s (Ok r) iq mic) (ap (λ x. read s x iq mic) (sym was) ∙ e)

  pub columns_refused : (result : Result Given Refusal) (e : Refusal) → result ≡ Err e → read s result iq mic ≡ read_of frame 1 (replicate 126 (pos 0)) (replicate 63 (pos 0)) s
      → text_for number (Err e) ≡ row_text number (a_frame frame)
  columns_refused result e was is = refused_alone number e _ _ _ _ ∙ reads_as (read s (Err e) iq mic) (ap (λ x. read s x iq mic) (sym was) ∙ is)

-- the row that is printed for what the reading of a line gave
pub row_printed : (number : ℕ) (shown : Result Columns Refusal) (out text : List ℕ) (w : Written) → text_for number shown ≡ text → w ≡ row_for number shown out → w ≡ printed text out
unfolding row_of
row_printed number (Ok c) out text w is e = e ∙ ap (λ t. printed t out) is
row_printed number (Err r) out text w is e = e ∙ ap (λ t. printed t out) is

-- where no line ended no row is printed, and where one did its own
pub no_row : (t : Taken) (out : List ℕ) → t.line ≡ Unfinished → gave 0 out ≡ printed (rows_of (found_by t)) out
no_row t out e = rw e (by_order (length out) 64 (λ short. rw (lt-ltb (length out) 64 short)) (λ room. rw (le-ltb (length out) 64 room)))

pub one_row : (t : Taken) (out : List ℕ) (line : Line) (f : Found) (w : Written) → t.line ≡ line → line_in line t.reader ≡ f ∷ []
    → w ≡ printed (row_text f.number f.content) out → w ≡ printed (rows_of (found_by t)) out
one_row t out line f w e one is =
    let rows : row_text f.number f.content ≡ rows_of (found_by t) = sym (append-nil _) ∙ ap rows_of (sym one ∙ ap (λ l. line_in l t.reader) (sym e)) in
    is ∙ ap (λ text. printed text out) rows

module _ (at : ℕ) (text out : List ℕ) where
  -- what is written stays inside the slice
  pub inside : (r : ℕ) (after : List ℕ) → gave r after ≡ printed_at at text out → length after ≡ length out → at ≤ length out → r ≤ length out
  inside r after e same within =
      by_order (length out) (at + 64)
      (λ short. let place : r ≡ at = ap (λ w. w.count) (rw (lt-ltb (length out) (at + 64) short) at e) in omega arith)
      (λ room.
      let is : gave r after ≡ gave (at + length text) (take at out ++ (text ++ drop (at + length text) out)) = rw (le-ltb (length out) (at + 64) room) at e in
      let place : r ≡ at + length text = ap (λ w. w.count) is in
      let stored : after ≡ take at out ++ (text ++ drop (at + length text) out) = ap (λ w. w.out) is in
      let parts : length after ≡ at + (length text + length (drop (at + length text) out)) =
      ap length stored ∙ rw (length-append (take at out), length-append text, length-take-le at out within) in
      omega arith)

  -- the row at the start of the rest, and what stands before it
  abbrev onward : Written → Written
  onward w = gave (at + w.count) (take at out ++ w.out)

  at_place : at ≤ length out → onward (printed text (drop at out)) ≡ printed_at at text out
  at_place within =
      let left : length (drop at out) ≡ length out - at = length-drop at out in
      by_order (length out) (at + 64)
      (λ short. rw (lt-ltb (length (drop at out)) 64 (omega arith), lt-ltb (length out) (at + 64) short, take-append-drop at out) (ap (λ n. gave n out) (add-zero at)))
      (λ room. rw (le-ltb (length (drop at out)) 64 (omega arith), le-ltb (length out) (at + 64) room, drop-drop (length text) at out))

  pub behind : (r : ℕ) (mid : List ℕ) → at ≤ length out → gave r mid ≡ printed text (take (length out - at) (drop at out))
      → gave (at + r) (put_mid at (length out - at) out mid) ≡ printed_at at text out
  behind r mid within e =
      let rest : take (length out - at) (drop at out) ≡ drop at out = take_all (length out - at) (drop at out) (omega (arith, length-drop at out)) in
      let nothing : mid ++ drop (length out - at) (drop at out) ≡ mid =
      ap (λ l. mid ++ l) (Post-is at (length out) out within ∙ drop-length out) ∙ append-nil mid in
      ap (λ l. gave (at + r) (take at out ++ l)) nothing ∙ ap onward (e ∙ ap (printed text) rest) ∙ at_place within

-- what a caller of `row` may count on: the next place is within the slice
pub row_inside : (t : Taken) (at : ℕ) (out : List ℕ) (r : ℕ) (after : List ℕ) → gave r after ≡ row_at t at out → length after ≡ length out → at ≤ length out → r ≤ length after
unfolding row_at
row_inside t at out r after e same within = let fits = inside at (rows_of (found_by t)) out r after e same within in omega arith
