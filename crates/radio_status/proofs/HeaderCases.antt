-- The header that is written: how long it is, and where it is laid and where not. Assumes nothing.
use mathlib.Core.Path.{◌≡◌, ap, ◌∙◌}
use mathlib.Core.Bool.{Bool, true, ◌&&◌}
use mathlib.Core.List.{List}
use Prim.Native.Nat.{ℕ, suc, ◌≤◌}
use borrow.Author.Tests.{le-leb, leb-true}
use lib.Dec.{eqb, leb}
use lib.ListN.{length}
use lib.Seq.{sets}
use Rattle.wire.specs.Sync.{headed}
use Rattle.wire.proofs.Cases.{by_test, both_true}
use Rattle.wire.proofs.Header.{with_room}
use Rattle.radio_status.specs.Control.{key_byte, word_bytes, header, versions_fit, levels_fit, status_fits, Versioned, Leveled, header_over}
use Rattle.radio_status.specs.declared.record.Versions.{Versions}
use Rattle.radio_status.specs.declared.record.Status.{Status}

pub word_long : (s : Status) (w : ℕ) → length (word_bytes s w) ≡ 4
unfolding word_bytes
word_long s w =
    by_test (eqb w 0) (λ e. rw e)
    (λ e. by_test (eqb w 1) (λ f. rw (e, f)) (λ f. by_test (eqb w 2) (λ g. rw (e, f, g)) (λ g. by_test (eqb w 3) (λ h. rw (e, f, g, h)) (λ h. rw (e, f, g, h)))))

pub header-long : (s : Status) (w : ℕ) → length (header s w) ≡ 8
header-long s w = ap (λ k. suc (suc (suc (suc k)))) (word_long s w)

pub versioned : (v : Versions) → versions_fit v ≡ true → Versioned v
versioned v fit =
    let last = both_true (leb v.board1 127 && leb v.board2 127 && leb v.board3 127) (leb v.board4 127) fit in
    let third = both_true (leb v.board1 127 && leb v.board2 127) (leb v.board3 127) last.0 in
    let two = both_true (leb v.board1 127) (leb v.board2 127) third.0 in
    record { first = leb-true _ 127 two.0; second = leb-true _ 127 two.1; third = leb-true _ 127 third.1; fourth = leb-true _ 127 last.1 }

module _ (s : Status) where
  abbrev two_fit : Bool
  two_fit = leb s.forward.ain5 4095 && leb s.forward.ain1 4095

  abbrev four_fit : Bool
  four_fit = two_fit && leb s.reverse.ain2 4095 && leb s.reverse.ain3 4095

  pub leveled : levels_fit s ≡ true → Leveled s
  leveled fit =
      let last = both_true (four_fit && leb s.supply.ain4 4095) (leb s.supply.ain6 4095) fit in
      let fifth = both_true four_fit (leb s.supply.ain4 4095) last.0 in
      let fourth = both_true (two_fit && leb s.reverse.ain2 4095) (leb s.reverse.ain3 4095) fifth.0 in
      let third = both_true two_fit (leb s.reverse.ain2 4095) fourth.0 in
      let two = both_true (leb s.forward.ain5 4095) (leb s.forward.ain1 4095) third.0 in
      record {
        ain5 = leb-true _ 4095 two.0;
        ain1 = leb-true _ 4095 two.1;
        ain2 = leb-true _ 4095 third.1;
        ain3 = leb-true _ 4095 fourth.1;
        ain4 = leb-true _ 4095 fifth.1;
        ain6 = leb-true _ 4095 last.1;
      }

  pub levels_fit_lem : Leveled s → levels_fit s ≡ true
  levels_fit_lem l = rw (le-leb _ 4095 l.ain5, le-leb _ 4095 l.ain1, le-leb _ 4095 l.ain2, le-leb _ 4095 l.ain3, le-leb _ 4095 l.ain4, le-leb _ 4095 l.ain6)

  -- a record that can be written
  pub writable : status_fits s ≡ true → Versioned s.versions × Leveled s
  writable fit = let both = both_true (versions_fit s.versions) (levels_fit s) fit in (versioned s.versions both.0, leveled both.1)

module _ (s : Status) (w : ℕ) (frame : List ℕ) (fit : status_fits s ≡ true) (listed : w ≤ 4) where
  header_put : header_over s w frame ≡ headed (key_byte s w) (word_bytes s w) frame
  unfolding header_over
  header_put = rw (fit, le-leb w 4 listed)

  pub header-laid : 8 ≤ length frame → header_over s w frame ≡ sets frame 0 (header s w)
  header-laid room = header_put ∙ with_room (key_byte s w) (word_bytes s w) frame room
