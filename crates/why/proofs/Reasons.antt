-- Each reason that is true of a place is the one that `reason_of` gives. Assumes nothing.
use mathlib.Core.Path.{◌≡◌, sym, ap, ◌∙◌}
use mathlib.Core.Bool.{false}
use mathlib.Core.List.{List}
use Prim.Native.Nat.{ℕ, ◌+◌, ◌-◌, ◌<◌, ◌≤◌}
use native.Mathlib.Omega.{arith}
use borrow.Author.Tests.{lt-ltb, le-ltb}
use lib.ListN.{length, take}
use lib.Seq.{take_all}
use Rattle.wire.specs.Places.{FirstNot}
use Rattle.wire.specs.Sync.{sync_at}
use Rattle.wire.proofs.Cases.{by_order}
use Rattle.wire.proofs.Named.{named_at, only_one}
use Rattle.reading.specs.UpTo.{Comes}
use Rattle.reading.proofs.NoneGood.{no_sync_lem}
use Rattle.reading.proofs.Readings.{good-long, counted, place_after}
use Rattle.reading.proofs.UpTo.{over_frame}
use Rattle.why.specs.Reasons.{InFrame, Skips, NearWrong, FarWrong, IsHeld, IsTrueReason}
use Rattle.why.specs.Why.{wrong_byte, skipped_for, coming_to, stands_at, reason_of}
use Rattle.why.specs.declared.Reason.{Reason}
use Rattle.why.specs.declared.Reason.TheVariants.{NotGiven, Inside, Near, Far, Held}

module _ (s : List ℕ) (p : ℕ) where
  -- the three places at which the reading can stand
  pub behind : (place : ℕ) → stands_at s p ≡ place → p < place → reason_of s p ≡ Inside (place - 512)
  unfolding reason_of
  behind place is past = rw (is, lt-ltb p place past)

  pub before : (place : ℕ) → stands_at s p ≡ place → place < p → reason_of s p ≡ Held
  unfolding reason_of
  before place is ended = rw (is, le-ltb p place (omega arith), lt-ltb place p ended)

  pub coming : Comes s p → reason_of s p ≡ coming_to s p
  unfolding reason_of
  coming comes = rw (comes.end_is, le-ltb p p (omega arith))

  pub skipping : Skips s p → reason_of s p ≡ skipped_for s p
  skipping skips = coming skips.comes ∙ rw (le-ltb (length s) (p + 515) skips.remain, skips.none)

  -- a sync of which a byte is named is wrong, and that byte is the one
  wrong_sync : (at byte : ℕ) → FirstNot 0x7f s at (at + 3) (at + byte) → sync_at s at ≡ false
  wrong_sync at byte first = no_sync_lem s (at + byte) at (omega arith) (omega (arith, first.before_end)) first.wrong

  the_byte : (at byte : ℕ) → at + 3 ≤ length s → FirstNot 0x7f s at (at + 3) (at + byte) → byte ≡ wrong_byte s at
  the_byte at byte inside first =
      let same = only_one 0x7f s at (at + 3) (at + byte) (at + wrong_byte s at) first (named_at s at inside (wrong_sync at byte first)) in
      omega (arith, same)

  in_frame : (q : ℕ) → InFrame s p q → Inside q ≡ reason_of s p
  in_frame q frame =
      let long = good-long s q frame.begins in
      by_order q p
      (λ earlier.
      let on = over_frame frame.comes frame.begins p earlier (omega (arith, frame.before_end)) in
      let stands : stands_at s p ≡ q + 512 = omega (arith, on.frames_are, on.skipped_are, frame.comes.end_is) in
      let start : q + 512 - 512 ≡ q = omega arith in
      sym (behind (q + 512) stands frame.before_end ∙ ap Inside start))
      (λ later.
      let is : q ≡ p = omega (arith, frame.from_start) in
      sym (coming (rw is at frame.comes) ∙ rw (le-ltb (length s) (p + 515) (omega arith), ← is, frame.begins)))

  near_wrong : (byte : ℕ) → NearWrong s p byte → Near byte ≡ reason_of s p
  near_wrong byte near =
      rw (skipping near.skips, wrong_sync p byte near.first_wrong) (ap Near (the_byte p byte (omega (arith, near.skips.remain)) near.first_wrong))

  far_wrong : (byte : ℕ) → FarWrong s p byte → Far byte ≡ reason_of s p
  far_wrong byte far =
      rw (skipping far.skips, far.near_right) (ap Far (the_byte (p + 512) byte (omega (arith, far.skips.remain)) far.first_wrong))

  is_held : IsHeld s p → Held ≡ reason_of s p
  is_held held =
      let counts = counted s in
      let ended : place_after s ≤ p = omega (arith, held.left) in
      let all : take (p + 514) s ≡ s = take_all (p + 514) s (omega (arith, held.left)) in
      let stands : stands_at s p ≡ place_after s = ap place_after all in
      by_order (place_after s) p (λ earlier. sym (before (place_after s) stands earlier))
      (λ here.
      let comes : Comes s p = record { end_is = omega (arith, stands) } in
      sym (coming comes ∙ rw (lt-ltb (length s) (p + 515) (omega (arith, held.left)))))

  -- a reason that is true is the one given
  pub the_reason : (reason : Reason) → IsTrueReason s p reason → reason ≡ reason_of s p
  the_reason NotGiven is = absurd is
  the_reason (Inside q) is = in_frame q is
  the_reason (Near byte) is = near_wrong byte is
  the_reason (Far byte) is = far_wrong byte is
  the_reason Held is = is_held is
