-- `read_of`, refused and accepted, and what an accepted frame is known to be. Assumes nothing.
use mathlib.Core.Path.{◌≡◌, refl, sym, ap, ◌∙◌}
use mathlib.Core.Bool.{true, not}
use mathlib.Core.List.{List}
use Prim.Native.Nat.{ℕ, ◌≤◌}
use borrow.Author.Tests.{eq-eqb, ne_eqb, le-ltb, eqb-true, eqb-false, ltb-false, not-false}
use lib.Dec.{eqb}
use lib.IntN.{ℤ}
use lib.ListN.{length}
use Rattle.wire.proofs.Cases.{by_test}
use Rattle.wire.proofs.First.{None, accepted_none, none_accepted, only_accepted}
use Rattle.std.specs.Prelude.{Err}
use Rattle.wire.specs.Answers.{Answer, Accepted, first, number_of}
use Rattle.wire.specs.declared.Refusal.{Refusal}
use Rattle.wire.specs.Sync.{sync_at}
use Rattle.host.specs.Read.{refusals, Outcome, refused, accepted, read_of}
use Rattle.wire.specs.Control.{control_of}
use Rattle.host_words.specs.Words.{unassigned}
use Rattle.host_record.specs.declared.record.Host.{Host}

-- a frame that no test refuses
pub record Good (f : List ℕ) (room : ℕ) : Type 0 where
  pub long : length f ≡ 512
  pub fits : 252 ≤ room
  pub sync : sync_at f 0 ≡ true
  pub assigned : None (unassigned (control_of f))

module _ (f : List ℕ) (room : ℕ) where
  pub accepted_good : first (refusals f room) ≡ Accepted → Good f room
  accepted_good e =
      let none = accepted_none (refusals f room) refl e in
      record {
        long = eqb-true _ _ (not-false _ none.0);
        fits = ltb-false _ _ none.1.0;
        sync = not-false _ none.1.1.0;
        assigned = none.1.1.1;
      }

  pub good_accepted : Good f room → first (refusals f room) ≡ Accepted
  good_accepted g =
      none_accepted (refusals f room) (ap not (eq-eqb _ _ g.long), (le-ltb _ _ g.fits, (ap not g.sync, g.assigned)))

pub same_outcome : {a b : Answer} {m n : ℕ} {g h : Host} {x y : List ℤ} → a ≡ b → m ≡ n → g ≡ h → x ≡ y → ◌≡◌ {A = Outcome} (record { answer = a; address = m; host = g; audio = x }) (record { answer = b; address = n; host = h; audio = y })
same_outcome p q r s = λ i. record { answer = p i; address = q i; host = r i; audio = s i }

module _ (f : List ℕ) (audio : List ℤ) (h : Host) where
  pub read-refused : (number_of (first (refusals f (length audio))) ≡ 0 → ⊥) → read_of f audio h ≡ refused (first (refusals f (length audio))) audio h
  unfolding read_of
  read-refused other = rw (ne_eqb (number_of (first (refusals f (length audio)))) 0 other)

  pub refused_by : (refusal : Refusal) → first (refusals f (length audio)) ≡ Err refusal → read_of f audio h ≡ refused (Err refusal) audio h
  refused_by refusal is =
      read-refused (λ none. cc (only_accepted (first (refusals f (length audio))) none)) ∙ ap (λ a. refused a audio h) is

  pub read_accepted : first (refusals f (length audio)) ≡ Accepted → read_of f audio h ≡ accepted f audio h
  unfolding read_of
  read_accepted e = rw e

  pub read_answer : (read_of f audio h).answer ≡ first (refusals f (length audio))
  read_answer =
      by_test (eqb (number_of (first (refusals f (length audio)))) 0)
      (λ e. let zero = only_accepted _ (eqb-true _ _ e) in ap (λ o. o.answer) (read_accepted zero) ∙ sym zero)
      (λ e. ap (λ o. o.answer) (read-refused (eqb-false _ _ e)))
