-- T-05: the reasons of all places of an input, added up, are what the reading gives. Assumes nothing.
use mathlib.Core.Path.{◌≡◌, refl, ap, ◌∙◌}
use mathlib.Core.Bool.{Bool, cond, true, false}
use mathlib.Core.List.{List}
use Prim.Native.Nat.{ℕ, zero, suc, ◌+◌, ◌-◌, ◌*◌, ◌<◌, ◌≤◌}
use native.Mathlib.Nat.{add-zero, add-suc}
use native.Mathlib.Omega.{arith}
use lib.ListN.{length}
use lib.Seq.{take_all}
use Rattle.wire.proofs.Cases.{either}
use Rattle.wire.specs.Sync.{sync_at}
use Rattle.reading.specs.Reading.{good, reading}
use Rattle.reading.specs.UpTo.{up_to, Comes}
use Rattle.reading.proofs.Readings.{good-long, counted, place_after}
use Rattle.reading.proofs.UpTo.{comes_first, over_frame, over_byte, to_the_end}
use Rattle.why.specs.Reasons.{IsTrueReason}
use Rattle.why.specs.Sums.{is_inside, is_skipped, is_held, how_many, AddsUp}
use Rattle.why.specs.Why.{Why, skipped_for, why_of}
use Rattle.why.specs.declared.Reason.{Reason}
use Rattle.why.specs.declared.Reason.TheVariants.{Inside, Near, Far, Held}
use Rattle.why.proofs.Cases.{explains}
use Rattle.why.proofs.OneReason.{no_two}
use Rattle.why.proofs.Reasons.{skipping, the_reason}
use Rattle.why.proofs.TrueReason.{reason_is_true}

-- a number of places, counted or not
counted_on : (b : Bool) (k n : ℕ) → k + cond b n 0 + cond b 1 0 ≡ k + cond b (suc n) 0
counted_on true k n = omega arith
counted_on false k n = omega arith

counted_none : (b : Bool) (k : ℕ) → k ≡ k + cond b 0 0
counted_none true k = omega arith
counted_none false k = omega arith

module _ (kind : Reason → Bool) (told : ℕ → Reason) where
  -- n places more, which all have the reason r
  more : (r : Reason) (a n : ℕ) → ((i : ℕ) → a ≤ i → i < a + n → told i ≡ r) → how_many kind told (a + n) ≡ how_many kind told a + cond (kind r) n 0
  more r a zero same = ap (how_many kind told) (add-zero a) ∙ counted_none (kind r) (how_many kind told a)
  more r a (suc n) same =
      rw (add-suc a n, same (a + n) (omega arith) (omega arith), more r a n (λ i from to. same i from (omega arith)))
      (counted_on (kind r) (how_many kind told a) n)

-- the places before p, which the reading comes to
record Told (s : List ℕ) (told : ℕ → Reason) (p : ℕ) : Type 0 where
  pub within : p ≤ length s
  pub inside_frames : how_many is_inside told p ≡ 512 * (up_to p s).frames
  pub skipped : how_many is_skipped told p ≡ (up_to p s).skipped
  pub held : how_many is_held told p ≡ 0

module _ (s : List ℕ) (told : ℕ → Reason) (all_true : (p : ℕ) → p < length s → IsTrueReason s p (told p)) where
  -- a reason that is true of a place is the one told
  is-told : (p : ℕ) (reason : Reason) → p < length s → IsTrueReason s p reason → told p ≡ reason
  is-told p reason inside is = no_two s p (told p) reason (all_true p inside) is

  at_frame : (p : ℕ) → Comes s p → good s p ≡ true → Told s told p → Told s told (p + 512)
  at_frame p comes begins before =
      let long = good-long s p begins in
      let on = over_frame comes begins (p + 512) (omega arith) (omega arith) in
      let same : (i : ℕ) → p ≤ i → i < p + 512 → told i ≡ Inside p =
      λ i from to. is-told i (Inside p) (omega arith) (record { comes = comes; begins = begins; from_start = from; before_end = to }) in
      record {
        within = omega arith;
        inside_frames = omega (arith, on.frames_are, before.inside_frames, more is_inside told (Inside p) p 512 same);
        skipped = omega (arith, on.skipped_are, before.skipped, more is_skipped told (Inside p) p 512 same);
        held = omega (arith, before.held, more is_held told (Inside p) p 512 same);
      }

  at_byte : (p : ℕ) → Comes s p → p + 515 ≤ length s → good s p ≡ false → Told s told p → Told s told (p + 1)
  at_byte p comes remain none before =
      let on = over_byte comes none remain in
      let r = skipped_for s p in
      let is : told p ≡ r = the_reason s p (told p) (all_true p (omega arith)) ∙ skipping s p (record { comes = comes; remain = remain; none = none }) in
      let same : (i : ℕ) → p ≤ i → i < p + 1 → told i ≡ r = λ i from to. let here : i ≡ p = omega arith in rw here is in
      let kind : (is-it : Reason → Bool) (b : Bool) → ((byte : ℕ) → is-it (Far byte) ≡ b) → ((byte : ℕ) → is-it (Near byte) ≡ b) → how_many is-it told (p + 1) ≡ how_many is-it told p + cond b 1 0 =
      λ is-it b far near. more is-it told r p 1 same ∙ ap (λ t. how_many is-it told p + cond t 1 0) (either (sync_at s p) (λ o. is-it o ≡ b) (far _) (near _)) in
      record {
        within = omega arith;
        inside_frames = omega (arith, on.frames_are, before.inside_frames, kind is_inside false (λ byte. refl) (λ byte. refl));
        skipped = omega (arith, on.skipped_are, before.skipped, kind is_skipped true (λ byte. refl) (λ byte. refl));
        held = omega (arith, before.held, kind is_held false (λ byte. refl) (λ byte. refl));
      }

  pub places_add_up : AddsUp s told
  places_add_up =
      let counts = counted s in
      let end = place_after s in
      let first = comes_first s in
      let before =
      to_the_end s (Told s told)
      (record { within = omega arith; inside_frames = omega (arith, first.end_is); skipped = omega (arith, first.end_is); held = refl }) at_frame at_byte in
      let whole : up_to end s ≡ reading s = ap reading (take_all (end + 514) s (omega arith)) in
      let rest = length s - end in
      let all : end + rest ≡ length s = omega arith in
      let same : (i : ℕ) → end ≤ i → i < end + rest → told i ≡ Held =
      λ i from to. is-told i Held (omega arith) (record { left = omega arith; inside = omega arith }) in
      let on : (kind : Reason → Bool) → how_many kind told (length s) ≡ how_many kind told end + cond (kind Held) rest 0 =
      λ kind. rw all at (more kind told Held end rest same) in
      record {
        inside_frames = on is_inside ∙ rw (before.inside_frames, whole) (omega arith);
        skipped = on is_skipped ∙ rw (before.skipped, whole) (omega arith);
        held = omega (arith, on is_held, before.held);
      }

-- so do the reasons that accepted calls give for all places of an input
pub told_add_up : (input : List ℕ) → length input ≤ 65536 → AddsUp input (λ place. (why_of input place).reason)
told_add_up input short =
    places_add_up input (λ place. (why_of input place).reason)
    (λ place inside. reason_is_true input place (ap (λ (w : Why). w.answer) (explains input place (record { short = short; inside = inside }))))
