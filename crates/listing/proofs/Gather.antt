-- Rows that gather in the output buffer: there is always room for one more, and none is lost. Assumes nothing.
use mathlib.Core.Path.{◌≡◌, refl, sym, ap, subst⁻¹, ◌∙◌}
use mathlib.Core.List.{List, [], ◌∷◌, ◌++◌, append_assoc, append-nil}
use Prim.Native.Nat.{ℕ, ◌+◌, ◌<◌, ◌≤◌}
use native.Mathlib.Nat.{add-zero}
use native.Mathlib.Omega.{arith}
use borrow.Author.Tests.{lt-ltb, le-ltb}
use lib.ListN.{length, take, drop, take-append-drop, length-append, length-drop}
use lib.Seq.{length-take-le, take_at}
use Rattle.std.specs.Prelude.{None, Some}
use Rattle.std.specs.Io.KnownBytes.{Appends}
use Rattle.std.specs.declared.option.Option.{Option}
use Rattle.wire.proofs.Cases.{by_order}
use Rattle.hexline.specs.Lines.{Found, a_frame, no_frame}
use Rattle.text.specs.Put.{Written, gave}
use Rattle.hexline.specs.Text.{line_in, found_by}
use Rattle.hexline.specs.declared.Line.{Line}
use Rattle.hexline.specs.declared.Line.TheVariants.{Unfinished, Frame, Length}
use Rattle.hexline.specs.declared.Reader.{Reader}
use Rattle.hexline.specs.declared.Taken.{Taken}
use Rattle.listed.specs.Rows.{row_text, rows_of, printed_at, row_at}
use Rattle.listing.specs.Buffer.{Room, waiting_in, with_row, settled, written_of, buffer_after, written_by}

pub written_both : (fs gs : List Found) (b : Written) → written_by (fs ++ gs) b ≡ written_by fs b ++ written_by gs (buffer_after fs b)
unfolding written_by buffer_after
written_both [] gs b = refl
written_both (f ∷ fs) gs b =
    ap (λ l. written_of (with_row f b) ++ l) (written_both fs gs (settled (with_row f b)))
    ∙ sym (append_assoc (written_of (with_row f b)) (written_by fs (settled (with_row f b))) _)

pub after_both : (fs gs : List Found) (b : Written) → buffer_after (fs ++ gs) b ≡ buffer_after gs (buffer_after fs b)
unfolding buffer_after
after_both [] gs b = refl
after_both (f ∷ fs) gs b = after_both fs gs (settled (with_row f b))

module _ (f : Found) (b : Written) (room : Room b) where
  abbrev text : List ℕ
  text = row_text f.number f.content

  row_is : with_row f b ≡ gave (b.count + length text) (take b.count b.out ++ (text ++ drop (b.count + length text) b.out))
  row_is = rw (le-ltb (length b.out) (b.count + 64) room)

  -- what waits is what waited, and the row
  row_waits : waiting_in (with_row f b) ≡ waiting_in b ++ text
  row_waits =
      let front : length (waiting_in b ++ text) ≡ b.count + length text = rw (length-append (waiting_in b) text, length-take-le b.count b.out (omega arith)) in
      ap waiting_in row_is
      ∙ ap (take (b.count + length text)) (sym (append_assoc (waiting_in b) text _))
      ∙ take_at (waiting_in b ++ text) (drop (b.count + length text) b.out) (b.count + length text) front

  still_long : 64 ≤ length (with_row f b).out
  still_long =
      let parts : length (with_row f b).out ≡ b.count + (length text + length (drop (b.count + length text) b.out)) =
      ap (λ (w : Written). length w.out) row_is
      ∙ rw (length-append (waiting_in b), length-append text, length-take-le b.count b.out (omega arith)) in
      omega (arith, parts, length-drop (b.count + length text) b.out)

  pub room_again : Room (settled (with_row f b))
  room_again =
      let w = with_row f b in
      by_order (length w.out) (w.count + 64)
      (λ full. rw (lt-ltb (length w.out) (w.count + 64) full) still_long)
      (λ more. rw (le-ltb (length w.out) (w.count + 64) more) more)

  none_lost : written_of (with_row f b) ++ waiting_in (settled (with_row f b)) ≡ waiting_in (with_row f b)
  none_lost =
      let w = with_row f b in
      by_order (length w.out) (w.count + 64)
      (λ full. rw (lt-ltb (length w.out) (w.count + 64) full) (append-nil (waiting_in w)))
      (λ more. rw (le-ltb (length w.out) (w.count + 64) more))

-- what was written, and what waits after it, are what waited before, and all the rows
pub rows_pass : (fs : List Found) (b : Written) → Room b → written_by fs b ++ waiting_in (buffer_after fs b) ≡ waiting_in b ++ rows_of fs
unfolding buffer_after written_by
rows_pass [] b room = sym (append-nil (waiting_in b))
rows_pass (f ∷ fs) b room =
    append_assoc (written_of (with_row f b)) _ _
    ∙ ap (λ l. written_of (with_row f b) ++ l) (rows_pass fs (settled (with_row f b)) (room_again f b room))
    ∙ sym (append_assoc (written_of (with_row f b)) _ (rows_of fs))
    ∙ ap (λ l. l ++ rows_of fs) (none_lost f b room ∙ row_waits f b room)
    ∙ append_assoc (waiting_in b) _ (rows_of fs)

room_after : (fs : List Found) (b : Written) → Room b → Room (buffer_after fs b)
unfolding buffer_after
room_after [] b room = room
room_after (f ∷ fs) b room = room_after fs (settled (with_row f b)) (room_again f b room)

pub room_kept : (fs : List Found) (b b' : Written) → Room b → b' ≡ buffer_after fs b → Room b'
room_kept fs b b' room is = subst⁻¹ Room is (room_after fs b room)

-- the row of the line that was taken, if there is one, after those that wait
module _ (at : ℕ) (out : List ℕ) (room : at + 64 ≤ length out) where
  no_line : settled (printed_at at [] out) ≡ gave at out
  no_line =
      rw (le-ltb (length out) (at + 64) room, add-zero at, take-append-drop at out)
      (rw (le-ltb (length out) (at + 64) room))

  one_line : (f : Found) → settled (printed_at at (rows_of (f ∷ [])) out) ≡ settled (with_row f (gave at out))
  one_line f = ap (λ text. settled (printed_at at text out)) (append-nil (row_text f.number f.content))

  no_line_written : written_of (printed_at at [] out) ≡ []
  no_line_written =
      rw (le-ltb (length out) (at + 64) room, add-zero at, take-append-drop at out)
      (rw (le-ltb (length out) (at + 64) room))

  one_line_written : (f : Found) → written_of (printed_at at (rows_of (f ∷ [])) out) ≡ written_of (with_row f (gave at out)) ++ []
  one_line_written f =
      ap (λ text. written_of (printed_at at text out)) (append-nil (row_text f.number f.content))
      ∙ sym (append-nil (written_of (with_row f (gave at out))))

  by_line_written : (line : Line) (r : Reader) → written_of (printed_at at (rows_of (line_in line r)) out) ≡ written_by (line_in line r) (gave at out)
  unfolding written_by
  by_line_written Unfinished r = no_line_written
  by_line_written Frame r = one_line_written (record { number = r.number; content = a_frame r.frame })
  by_line_written Length r = one_line_written (record { number = r.number; content = no_frame })

  by_line : (line : Line) (r : Reader) → settled (printed_at at (rows_of (line_in line r)) out) ≡ buffer_after (line_in line r) (gave at out)
  unfolding buffer_after
  by_line Unfinished r = no_line
  by_line Frame r = one_line (record { number = r.number; content = a_frame r.frame })
  by_line Length r = one_line (record { number = r.number; content = no_frame })

  pub taken_row : (t : Taken) (w : Written) → w ≡ row_at t at out → settled w ≡ buffer_after (found_by t) (gave at out)
  unfolding row_at
  taken_row t w e = ap settled e ∙ by_line t.line t.reader

  -- and what is written then
  pub row_written : (t : Taken) (w : Written) → w ≡ row_at t at out → written_of w ≡ written_by (found_by t) (gave at out)
  unfolding row_at
  row_written t w e = ap written_of e ∙ by_line_written t.line t.reader

-- the two ways that the code goes on
pub when_full : (next : ℕ) (out : List ℕ) → length out < next + 64 → gave 0 out ≡ settled (gave next out)
when_full next out full = rw (lt-ltb (length out) (next + 64) full)

pub when_not_full : (next : ℕ) (out : List ℕ) → next + 64 ≤ length out → gave next out ≡ settled (gave next out)
when_not_full next out more = rw (le-ltb (length out) (next + 64) more)

pub written_when_full : (next : ℕ) (out : List ℕ) → length out < next + 64 → take next out ≡ written_of (gave next out)
written_when_full next out full = rw (lt-ltb (length out) (next + 64) full)

pub none_when_not_full : (next : ℕ) (out : List ℕ) → next + 64 ≤ length out → [] ≡ written_of (gave next out)
none_when_not_full next out more = rw (le-ltb (length out) (next + 64) more)

-- an output whose bytes are known, to which nothing and to which two texts are written
pub appends_none : (held : Option (List ℕ)) → Appends held held []
appends_none None = tt
appends_none (Some xs) = sym (append-nil xs)

pub appends_both : (a b c : Option (List ℕ)) (x y : List ℕ) → Appends a b x → Appends b c y → Appends a c (x ++ y)
appends_both None b c x y one other = tt
appends_both (Some us) None c x y one other = elim one [ ]
appends_both (Some us) (Some vs) None x y one other = elim other [ ]
appends_both (Some us) (Some vs) (Some ws) x y one other = other ∙ ap (λ l. l ++ y) one ∙ append_assoc us x y
