-- `build_of`, refused and accepted, and what a builder that is not refused is known to be. Assumes nothing.
use mathlib.Core.Path.{◌≡◌, refl, sym, ap, ◌∙◌}
use mathlib.Core.Bool.{not}
use mathlib.Core.List.{List}
use Prim.Native.Nat.{ℕ, ◌≤◌}
use borrow.Author.Tests.{eq-eqb, ne_eqb, eqb-true, eqb-false, le-ltb, ltb-false, not-false}
use lib.Dec.{eqb}
use lib.IntN.{ℤ}
use lib.ListN.{length}
use Rattle.wire.proofs.Cases.{by_test}
use Rattle.wire.proofs.First.{accepted_none, none_accepted, only_accepted}
use Rattle.std.specs.Prelude.{Err}
use Rattle.wire.specs.Answers.{Answer, Accepted, first, number_of}
use Rattle.wire.specs.declared.Refusal.{Refusal}
use Rattle.host.specs.Build.{refusals, Outcome, refused, accepted, build_of}
use Rattle.host_turn.proofs.Sendable.{none_in_range, in_range_none}
use Rattle.host_turn.specs.Sent.{InRange}
use Rattle.host_words.specs.Words.{last_word}
use Rattle.host.specs.declared.Builder.{Builder}

-- a build that no test refuses
pub record Ready (b : Builder) (count room : ℕ) : Type 0 where
  pub turn : b.turn ≤ last_word
  pub long : room ≡ 512
  pub fits : 252 ≤ count
  pub range : InRange b.host

module _ (b : Builder) (count room : ℕ) where
  pub accepted_ready : first (refusals b count room) ≡ Accepted → Ready b count room
  accepted_ready e =
      let none = accepted_none (refusals b count room) refl e in
      record {
        turn = ltb-false _ _ none.0;
        long = eqb-true _ _ (not-false _ none.1.0);
        fits = ltb-false _ _ none.1.1.0;
        range = none_in_range b.host none.1.1.1;
      }

  pub ready_accepted : Ready b count room → first (refusals b count room) ≡ Accepted
  ready_accepted r =
      none_accepted (refusals b count room) (le-ltb _ _ r.turn, (ap not (eq-eqb _ _ r.long), (le-ltb _ _ r.fits, in_range_none b.host r.range)))

pub same_outcome : {x y : Answer} {a b : Builder} {f g : List ℕ} → x ≡ y → a ≡ b → f ≡ g → ◌≡◌ {A = Outcome} (record { answer = x; builder = a; frame = f }) (record { answer = y; builder = b; frame = g })
same_outcome p q r = λ i. record { answer = p i; builder = q i; frame = r i }

module _ (b : Builder) (audio : List ℤ) (frame : List ℕ) where
  pub build-refused : (number_of (first (refusals b (length audio) (length frame))) ≡ 0 → ⊥) → build_of b audio frame ≡ refused (first (refusals b (length audio) (length frame))) b frame
  unfolding build_of
  build-refused other = rw (ne_eqb (number_of (first (refusals b (length audio) (length frame)))) 0 other)

  pub refused_by : (refusal : Refusal) → first (refusals b (length audio) (length frame)) ≡ Err refusal → build_of b audio frame ≡ refused (Err refusal) b frame
  refused_by refusal is =
      build-refused (λ none. cc (only_accepted (first (refusals b (length audio) (length frame))) none)) ∙ ap (λ a. refused a b frame) is

  pub build-accepted : first (refusals b (length audio) (length frame)) ≡ Accepted → build_of b audio frame ≡ accepted b audio
  unfolding build_of
  build-accepted e = rw e

  pub build_answer : (build_of b audio frame).answer ≡ first (refusals b (length audio) (length frame))
  build_answer =
      by_test (eqb (number_of (first (refusals b (length audio) (length frame)))) 0)
      (λ e. let zero = only_accepted _ (eqb-true _ _ e) in ap (λ o. o.answer) (build-accepted zero) ∙ sym zero)
      (λ e. ap (λ o. o.answer) (build-refused (eqb-false _ _ e)))
