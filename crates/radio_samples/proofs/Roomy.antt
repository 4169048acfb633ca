-- Where the samples of a frame can be read or written, and where not, and what comes of it.
-- Assumes nothing.
use mathlib.Core.Path.{◌≡◌, sym, ◌∙◌}
use mathlib.Core.Bool.{true, false, ◌&&◌}
use mathlib.Core.List.{List}
use Prim.Native.Nat.{ℕ, ◌≤◌}
use borrow.Author.Tests.{eq-eqb, eqb-true, le-leb, leb-true}
use lib.Dec.{eqb, leb}
use lib.IntN.{ℤ}
use lib.ListN.{length}
use lib.Seq.{sets}
use Rattle.std.specs.Prelude.{Some, None}
use Rattle.std.specs.Result.{result_ok}
use Rattle.wire.specs.Lists.{over}
use Rattle.wire.proofs.Cases.{by_test, both_true}
use Rattle.layout.specs.Slots.{counted, slots, values}
use Rattle.layout.specs.Table.{row_of, lookup}
use Rattle.layout.specs.declared.row.Row.{Row}
use Rattle.radio_samples.specs.Fill.{payload_of, samples_over}
use Rattle.radio_samples.specs.Samples.{iq_at, mic_at, roomy, fit, samples_read}

-- a row that was looked up
pub looked_up : (n : ℕ) (r : Row) → result_ok (lookup n) ≡ Some r → (counted n ≡ true) × (r ≡ row_of n)
looked_up n r e =
    by_test (counted n) (λ is. (is, (let same : result_ok (lookup n) ≡ Some (row_of n) = rw is in cc)))
    (λ isn't. let other : result_ok (lookup n) ≡ None = rw isn't in cc)

module _ (n iq mic bytes due : ℕ) where
  pub has_room : counted n ≡ true → values n ≤ iq → slots n ≤ mic → bytes ≡ due → roomy n iq mic bytes due ≡ true
  unfolding roomy
  has_room is iq_room mic_room same = rw (is, le-leb _ _ iq_room, le-leb _ _ mic_room, eq-eqb bytes due same)

  pub all_there : counted n ≡ true → values n ≤ iq → slots n ≤ mic → bytes ≡ due → fit n iq mic bytes due ≡ Some (row_of n)
  all_there is iq_room mic_room same = rw (has_room is iq_room mic_room same)

  -- what is known where a row was given, and where none was
  pub fits : (r : Row) → fit n iq mic bytes due ≡ Some r → (roomy n iq mic bytes due ≡ true) × (r.receivers ≡ n)
  fits r e =
      by_test (roomy n iq mic bytes due) (λ is. (is, (let same : fit n iq mic bytes due ≡ Some (row_of n) = rw is in cc)))
      (λ isn't. let other : fit n iq mic bytes due ≡ None = rw isn't in cc)

  pub unfit : fit n iq mic bytes due ≡ None → roomy n iq mic bytes due ≡ false
  unfit e =
      by_test (roomy n iq mic bytes due)
      (λ is. let other : fit n iq mic bytes due ≡ Some (row_of n) = rw is in cc)
      (λ isn't. isn't)

  pub room : roomy n iq mic bytes due ≡ true → (values n ≤ iq) × (slots n ≤ mic) × (bytes ≡ due)
  unfolding roomy
  room is =
      let all = both_true (counted n && leb (values n) iq && leb (slots n) mic) (eqb bytes due) is in
      let slices = both_true (counted n && leb (values n) iq) (leb (slots n) mic) all.0 in
      (leb-true _ iq (both_true (counted n) (leb (values n) iq) slices.0).1, leb-true _ mic slices.1, eqb-true bytes due all.1)

module _ (n : ℕ) (payload : List ℕ) (iq mic : List ℤ) where
  pub not_read : roomy n (length iq) (length mic) (length payload) 504 ≡ false → samples_read n payload iq mic ≡ (iq, mic)
  unfolding samples_read
  not_read short = rw short

  pub all_read : roomy n (length iq) (length mic) (length payload) 504 ≡ true → samples_read n payload iq mic ≡ (over (values n) (iq_at n payload) iq, over (slots n) (mic_at n payload) mic)
  unfolding samples_read
  all_read room = rw room

  -- the same of slices that were each shown to be so
  pub gives_read : roomy n (length iq) (length mic) (length payload) 504 ≡ true → (iq' mic' : List ℤ) → iq' ≡ over (values n) (iq_at n payload) iq → mic' ≡ over (slots n) (mic_at n payload) mic → (iq', mic') ≡ samples_read n payload iq mic
  gives_read room iq' mic' iq_is mic_is = (λ i. (iq_is i, mic_is i)) ∙ sym (all_read room)

module _ (n : ℕ) (iq mic : List ℤ) (frame : List ℕ) where
  pub not_written : roomy n (length iq) (length mic) (length frame) 512 ≡ false → samples_over n iq mic frame ≡ frame
  unfolding samples_over
  not_written short = rw short

  pub all_written : roomy n (length iq) (length mic) (length frame) 512 ≡ true → samples_over n iq mic frame ≡ sets frame 8 (payload_of n iq mic)
  unfolding samples_over
  all_written room = rw room
