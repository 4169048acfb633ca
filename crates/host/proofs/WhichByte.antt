-- The byte that a refused read names is wrong, and every byte before it, among those that are tested, is right; the cause that it names is
-- set, and none before it is; and no other answer names one. Assumes nothing.
use mathlib.Core.Path.{◌≡◌, refl, sym, ap, subst⁻¹, ◌∙◌}
use mathlib.Core.List.{List}
use Prim.Native.Nat.{ℕ}
use native.Mathlib.Omega.{arith}
use borrow.Author.Tests.{eqb-true, not-false}
use lib.IntN.{ℤ}
use lib.ListN.{length, take}
use Rattle.wire.specs.Answers.{Test, first, number_of, CauseNamed}
use Rattle.wire.proofs.Causes.{cause_named}
use Rattle.wire.proofs.First.{passing, never, no_place}
use Rattle.wire.proofs.Named.{sync_told}
use Rattle.host_record.specs.declared.record.Host.{Host}
use Rattle.host_words.specs.Words.{is_set, unassigned}
use Rattle.host.specs.Read.{refusals, read_of}
use Rattle.wire.specs.Control.{control_of}
use Rattle.host.specs.WhichByte.{TellsWhich}
use Rattle.host.proofs.ReadCases.{read_answer}

module _ (frame : List ℕ) (room : ℕ) where
  abbrev all : List Test
  all = refusals frame room

  cause_told : number_of (first all) ≡ 8 → CauseNamed (is_set (control_of frame)) (first all)
  cause_told is =
      let before = passing 8 (take 3 all) (unassigned (control_of frame)) refl is in
      subst⁻¹ (CauseNamed (is_set (control_of frame))) before.1 (cause_named (is_set (control_of frame)) (sym (ap number_of before.1) ∙ is))

  tells : TellsWhich frame (first all)
  tells =
      record {
        sync = sync_told frame (take 2 all) (unassigned (control_of frame)) refl refl (λ none. eqb-true _ _ (not-false _ none.0));
        reserved = cause_told;
        none = λ not6 not8. no_place (first all) not6 (never 7 all refl (λ e. omega arith)) not8;
      }

pub which_byte : (frame : List ℕ) (audio : List ℤ) (h : Host) → TellsWhich frame (read_of frame audio h).answer
which_byte frame audio h = subst⁻¹ (TellsWhich frame) (read_answer frame audio h) (tells frame (length audio))
