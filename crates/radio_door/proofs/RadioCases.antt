-- Reading and writing radio frames through the door, in their cases. Assumes nothing.
use mathlib.Core.Path.{◌≡◌, sym, ap, ◌∙◌}
use mathlib.Core.Bool.{true, false}
use mathlib.Core.List.{List}
use Prim.Native.Nat.{ℕ}
use lib.IntN.{ℤ}
use Rattle.std.specs.Prelude.{Result, Ok, Err}
use Rattle.wire.specs.Answers.{Answer, number_of}
use Rattle.wire.specs.declared.Refusal.{Refusal}
use Rattle.radio_status.specs.Words.{word_number}
use Rattle.radio_status.specs.declared.record.Status.{Status}
use Rattle.radio.specs.Read.{read_of}
use Rattle.radio.specs.Read as Read
use Rattle.radio.specs.Write.{write_of}
use Rattle.radio.specs.Write as Write
use Rattle.radio.specs.declared.Reading.{Reading}
use Rattle.cells.specs.Cells.{within, returned_by, bad_state, put_over, wrote}
use Rattle.cells.proofs.Cases.{enough, kept-err, put_first}
use Rattle.radio_door.specs.Status.{status_most, status_of, status_from, status_cells}
use Rattle.radio_door.specs.Radio.{gave, shown, radio_read_of, numbered, radio_write_of}
use Rattle.radio_door.proofs.StatusCases.{given_bad, given_good}

module _ (frame : List ℕ) (n : ℕ) (iq mic : List ℤ) (cells : List ℕ) where
  pub read_bad : within status_most cells ≡ false → radio_read_of frame n iq mic cells ≡ gave bad_state cells iq mic
  unfolding radio_read_of
  read_bad bad = rw bad

  pub read_good : within status_most cells ≡ true → radio_read_of frame n iq mic cells ≡ shown cells (read_of frame n iq mic (status_of cells))
  unfolding radio_read_of
  read_good good = rw good

  -- the cells can be no record
  pub read_none : (e : Refusal) → Err e ≡ status_from cells → gave (returned_by (Err e)) cells iq mic ≡ radio_read_of frame n iq mic cells
  read_none e is =
      let bad = given_bad cells e is in ap (λ r. gave (returned_by (Err r)) cells iq mic) bad.1 ∙ sym (read_bad bad.0)

  module _ (s : Status) (is : Ok s ≡ status_from cells) (iq₁ mic₁ : List ℤ) where
    good : (within status_most cells ≡ true) × (s ≡ status_of cells)
    good = given_good cells s is

    -- what the record's read leaves, as the cells show it
    left : (result : Result Reading Refusal) → Read.gave s result iq₁ mic₁ ≡ read_of frame n iq mic s → shown cells (Read.gave s result iq₁ mic₁) ≡ radio_read_of frame n iq mic cells
    left result read =
        ap (shown cells) read ∙ ap (λ t. shown cells (read_of frame n iq mic t)) good.1 ∙ sym (read_good good.0)

    pub read_refused : (e : Refusal) → Read.gave s (Err e) iq₁ mic₁ ≡ read_of frame n iq mic s → gave (returned_by (Err e)) cells iq₁ mic₁ ≡ radio_read_of frame n iq mic cells
    read_refused e read =
        ap (λ l. gave (returned_by (Err e)) l iq₁ mic₁) (sym (kept-err e (status_cells s) cells)) ∙ left (Err e) read

    pub read_taken : (r : Reading) → Read.gave s (Ok r) iq₁ mic₁ ≡ read_of frame n iq mic s → gave (returned_by (Ok (word_number r.word))) (put_over cells 0 (status_cells r.status)) iq₁ mic₁ ≡ radio_read_of frame n iq mic cells
    read_taken r read =
        ap (λ l. gave (returned_by (Ok (word_number r.word))) l iq₁ mic₁) (put_first cells (status_cells r.status) (enough status_most cells good.0))
        ∙ left (Ok r) read

module _ (cells : List ℕ) (w n : ℕ) (iq mic : List ℤ) (frame : List ℕ) where
  pub write_bad : within status_most cells ≡ false → radio_write_of cells w n iq mic frame ≡ wrote bad_state frame
  unfolding radio_write_of
  write_bad bad = rw bad

  pub write_good : within status_most cells ≡ true → radio_write_of cells w n iq mic frame ≡ numbered (write_of (status_of cells) w n iq mic frame)
  unfolding radio_write_of
  write_good good = rw good

  pub write_none : (e : Refusal) → Err e ≡ status_from cells → wrote (number_of (Err e)) frame ≡ radio_write_of cells w n iq mic frame
  write_none e is =
      let bad = given_bad cells e is in ap (λ r. wrote (number_of (Err r)) frame) bad.1 ∙ sym (write_bad bad.0)

  pub write_made : (s : Status) → Ok s ≡ status_from cells → (answer : Answer) (frame₁ : List ℕ) → Write.gave answer frame₁ ≡ write_of s w n iq mic frame → wrote (number_of answer) frame₁ ≡ radio_write_of cells w n iq mic frame
  write_made s is answer frame₁ made =
      let good = given_good cells s is in
      ap numbered made ∙ ap (λ t. numbered (write_of t w n iq mic frame)) good.1 ∙ sym (write_good good.0)
