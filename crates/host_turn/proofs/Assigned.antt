-- The codes and the bits that are unassigned: what a frame that is not refused leaves of them, and that no built word sets one. Assumes nothing.
use mathlib.Core.Path.{◌≡◌, refl}
use mathlib.Core.Bool.{Bool, true, false, ◌&&◌}
use Prim.Native.Nat.{ℕ, ◌<◌}
use native.Mathlib.Omega.{arith}
use borrow.Author.Tests.{eqb-true, ne_eqb}
use lib.Dec.{eqb}
use Rattle.wire.proofs.First.{None}
use Rattle.wire.specs.Fields.{bits, on}
use Rattle.host_words.proofs.Carries.{assigned_codes}
use Rattle.host_record.specs.Choices.{source10_code, relay_code}
use Rattle.host_turn.specs.Sent.{InRange, said}
use Rattle.host_words.specs.Words.{address, unassigned}
use Rattle.host_record.specs.declared.record.Host.{Host}
use Rattle.host_record.specs.declared.choices.Source10.{Source10}
use Rattle.host_record.specs.declared.choices.Relay.{Relay}
use Rattle.wire.specs.declared.control.Control.{Control}
use Rattle.host_turn.proofs.BitTrip.{switched, eight_back}
use Rattle.host_turn.proofs.WordTrip.{control_from, c1_field, c4_field, front_c1_field}

-- what a frame that is not refused leaves of the codes and the bits that are unassigned
pub record Assigned (a : ℕ) (c : Control) : Type 0 where
  pub source : a ≡ 0 → bits c.c1 3 2 < 3
  pub relay : a ≡ 0 → bits c.c4 1 0 < 3
  pub ninth : a ≡ 9 → on c.c4 7 ≡ false
  pub tenth : a ≡ 10 → on c.c1 7 ≡ false

pub assigned : (c : Control) → None (unassigned c) → Assigned (address c) c
assigned c none =
    record {
      source = λ z. (assigned_codes c z none).0;
      relay = λ z. (assigned_codes c z none).1;
      ninth = λ z. rw z at none.1.1.0;
      tenth = λ z. rw z at none.1.1.1.0;
    }

-- a test of another word, or one that does not hold
not_both : (p q : Bool) → (p ≡ true → q ≡ false) → p && q ≡ false
not_both true q no_more = no_more refl
not_both false q no_more = refl

pub assigned_none : (c : Control) → Assigned (address c) c → None (unassigned c)
assigned_none c ok = (
  not_both (eqb (address c) 0) (eqb (bits c.c1 3 2) 3) (λ z. let low = ok.source (eqb-true _ _ z) in ne_eqb (bits c.c1 3 2) 3 (omega arith)),
  (
    not_both (eqb (address c) 0) (eqb (bits c.c4 1 0) 3) (λ z. let low = ok.relay (eqb-true _ _ z) in ne_eqb (bits c.c4 1 0) 3 (omega arith)),
    (
      not_both (eqb (address c) 9) (on c.c4 7) (λ z. ok.ninth (eqb-true _ _ z)),
      (
        not_both (eqb (address c) 10) (on c.c1 7) (λ z. ok.tenth (eqb-true _ _ z)),
        -- no host word carries a level
        (refl, (refl, (refl, (refl, (refl, (refl, tt)))))),
      ),
    ),
  ),
)

-- a built word sets nothing unassigned
source_low : (x : Source10) → source10_code x < 3
source_low Source10.AtlasOrExcalibur = omega arith
source_low Source10.Penelope = omega arith
source_low Source10.Mercury = omega arith

relay_low : (x : Relay) → relay_code x < 3
relay_low Relay.Tx1 = omega arith
relay_low Relay.Tx2 = omega arith
relay_low Relay.Tx3 = omega arith

pub built_assigned : (turn c0 : ℕ) (h : Host) → InRange h → Assigned turn (control_from c0 (said turn h))
unfolding said
built_assigned turn c0 h range =
    record {
      source = λ z. rw (z, c1_field h 1) (source_low h.source10);
      relay = λ z. rw (z, c4_field h range 0) (relay_low h.relay);
      ninth = λ z.
          let s = h.lowpass in
          rw z (switched false (eight_back s.m30 s.m60 s.m80 s.m160 s.m6 s.m12 s.m17 false 7));
      tenth = λ z. rw z (switched false (front_c1_field h.front 7));
    }
