-- A word changes the fields that it carries, and no others. MOX follows every word. Assumes nothing.
use mathlib.Core.Path.{◌≡◌, refl, sym, ◌∙◌}
use Prim.Native.Nat.{ℕ, zero, suc, ◌+◌, ◌-◌, ◌<◌}
use native.Mathlib.Omega.{arith}
use borrow.Author.Tests.{ne_eqb, eqb-false}
use lib.ListN.{get_or, length-set}
use lib.Seq.{get_or-set_same, get_or-set_other}
use Rattle.wire.proofs.Cases.{by_test}
use Rattle.wire.proofs.First.{None}
use Rattle.wire.specs.Fields.{bits, on}
use Rattle.host_words.proofs.Heard.{tuned, receiver-tunes}
use Rattle.host_record.specs.Choices.{source10_of, relay_of}
use Rattle.host_record.specs.Record.{Same, Seven}
use Rattle.host_words.specs.Words.{address, hertz, unassigned, tunes, heard, after, source10_or, relay_or}
use Rattle.host_record.specs.declared.record.Host.{Host}
use Rattle.host_record.specs.declared.choices.Source10.{Source10}
use Rattle.host_record.specs.declared.choices.Relay.{Relay}
use Rattle.wire.specs.declared.control.Control.{Control}

module _ (a : ℕ) (c : Control) (h : Host) where
  pub mox_follows : (heard a c h).mox ≡ on c.c0 0
  unfolding heard
  mox_follows = refl

  pub still_seven : Seven h → Seven (heard a c h)
  unfolding heard
  still_seven long =
      by_test (tunes a) (λ e. rw e (length-set h.frequencies (a - 2) _ ∙ long)) (λ e. rw e long)

  -- an entry other than the word's own
  other_entry : (i : ℕ) → (i + 2 ≡ a → ⊥) → get_or (heard a c h).frequencies i 0 ≡ get_or h.frequencies i 0
  unfolding heard
  other_entry i other =
      by_test (tunes a)
      (λ e.
      let in-word = tuned a e in
      rw e (get_or-set_other h.frequencies (a - 2) i (hertz c) 0 (λ same. other (omega arith))))
      (λ e. rw e)

  -- the word's own entry
  pub own_entry : (i : ℕ) → i < 7 → a ≡ i + 2 → Seven h → get_or (heard a c h).frequencies i 0 ≡ hertz c
  unfolding heard
  own_entry i small own long =
      let at : a - 2 ≡ i = omega arith in
      rw (receiver-tunes a (omega arith) (omega arith), at) (get_or-set_same h.frequencies i (hertz c) 0 (omega arith))

  pub others_kept : (w : ℕ) → (w ≡ a → ⊥) → Same w (heard a c h) h
  unfolding heard
  others_kept w other =
      record {
        zeroth = λ z. rw (ne_eqb a 0 (λ e. other (z ∙ sym e)));
        first = λ z. rw (ne_eqb a 1 (λ e. other (z ∙ sym e)));
        receiver = λ i small z. other_entry i (λ e. other (z ∙ e));
        ninth = λ z. rw (ne_eqb a 9 (λ e. other (z ∙ sym e)));
        tenth = λ z. rw (ne_eqb a 10 (λ e. other (z ∙ sym e)));
      }

-- a code below 3 names a source, and a relay, whatever the record had
source_named : (n : ℕ) (x y : Source10) → n < 3 → source10_or (source10_of n) x ≡ source10_or (source10_of n) y
source_named zero x y h = refl
source_named (suc zero) x y h = refl
source_named (suc (suc zero)) x y h = refl
source_named (suc (suc (suc n))) x y h = absurd (omega arith)

relay_named : (n : ℕ) (x y : Relay) → n < 3 → relay_or (relay_of n) x ≡ relay_or (relay_of n) y
relay_named zero x y h = refl
relay_named (suc zero) x y h = refl
relay_named (suc (suc zero)) x y h = refl
relay_named (suc (suc (suc n))) x y h = absurd (omega arith)

-- what the unassigned codes leave to word 0
pub assigned_codes : (c : Control) → address c ≡ 0 → None (unassigned c) → (bits c.c1 3 2 < 3) × (bits c.c4 1 0 < 3)
assigned_codes c zeroth none =
    let source = eqb-false (bits c.c1 3 2) 3 (rw zeroth at none.0) in
    let relay = eqb-false (bits c.c4 1 0) 3 (rw zeroth at none.1.0) in
    (omega arith, omega arith)

-- what a word's fields become is the frame's alone: the record that it is read into has no part in them
pub carried : (c : Control) (g h : Host) → Seven g → Seven h → None (unassigned c) → Same (address c) (after c g) (after c h)
unfolding heard
carried c g h long-g long-h none =
    record {
      zeroth = λ z. let codes = assigned_codes c z none in rw (z, source_named (bits c.c1 3 2) g.source10 h.source10 codes.0, relay_named (bits c.c4 1 0) g.relay h.relay codes.1);
      first = λ z. rw z;
      receiver = λ i small z. own_entry (address c) c g i small z long-g ∙ sym (own_entry (address c) c h i small z long-h);
      ninth = λ z. rw z;
      tenth = λ z. rw z;
    }

-- word 10 leaves word 0's preamp alone, and word 0 leaves word 10's fields alone
pub preamps_apart : (c : Control) (h : Host) → ((heard 10 c h).preamp ≡ h.preamp) × ((heard 0 c h).front ≡ h.front)
unfolding heard
preamps_apart c h = (refl, refl)
