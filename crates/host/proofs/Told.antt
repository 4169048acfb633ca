-- Frames that between them say every word of a record leave it, whatever record they are read into. Assumes nothing.
use mathlib.Core.Path.{◌≡◌, sym, ap, subst⁻¹, ◌∙◌}
use mathlib.Core.Bool.{Bool, true, false, cond, true≢false}
use mathlib.Core.List.{List, [], ◌∷◌}
use Prim.Native.Nat.{ℕ, ◌≤◌}
use native.Mathlib.Omega.{arith}
use borrow.Author.Tests.{eqb-true, eqb-false}
use lib.Dec.{eqb}
use lib.ListN.{length}
use Rattle.wire.proofs.Cases.{by_test}
use Rattle.wire.specs.Fields.{on}
use Rattle.host_words.proofs.Carries.{mox_follows, still_seven, others_kept}
use Rattle.host.proofs.ReadCases.{Good, good_accepted, read_accepted}
use Rattle.host_words.proofs.Sameness.{same_same, wholly_same}
use Rattle.host.specs.Read.{Call, reads, read_of}
use Rattle.wire.specs.Control.{control_of}
use Rattle.host_record.specs.Record.{Same, Seven}
use Rattle.host_words.specs.Words.{last_word, address, after}
use Rattle.host_record.specs.declared.record.Host.{Host}

-- an accepted frame whose word is w, and says of it what h has
pub record Says (h : Host) (w : ℕ) (x : Call) : Type 0 where
  pub good : Good x.frame (length x.audio)
  pub word : address (control_of x.frame) ≡ w
  pub keyed : on (control_of x.frame).c0 0 ≡ h.mox
  pub fields : (g : Host) → Seven g → Same w (after (control_of x.frame) g) h

-- frames and words, one by one
abbrev pub Each : (ℕ → Call → Type 0) → List ℕ → List Call → Type 0
Each R [] [] = Unit {0}
Each R [] (x ∷ xs) = ⊥
Each R (w ∷ ws) [] = ⊥
Each R (w ∷ ws) (x ∷ xs) = R w x × Each R ws xs

pub each : (R S : ℕ → Call → Type 0) → ((w : ℕ) (x : Call) → R w x → S w x) → (ws : List ℕ) (xs : List Call) → Each R ws xs → Each S ws xs
each R S turn [] [] r = tt
each R S turn [] (x ∷ xs) r = elim r [ ]
each R S turn (w ∷ ws) [] r = elim r [ ]
each R S turn (w ∷ ws) (x ∷ xs) r = (turn w x r.0, each R S turn ws xs r.1)

abbrev pub among : ℕ → List ℕ → Bool
among w [] = false
among w (v ∷ vs) = cond (eqb w v) true (among w vs)

-- what an accepted frame leaves
left : (x : Call) (g : Host) → Good x.frame (length x.audio) → (read_of x.frame x.audio g).host ≡ after (control_of x.frame) g
left x g good = ap (λ o. o.host) (read_accepted x.frame x.audio g (good_accepted x.frame (length x.audio) good))

module _ (h : Host) where
  -- what no such frame undoes holds at the end
  through : (P : Host → Type 0) → ((w : ℕ) (x : Call) (g : Host) → Says h w x → P g → P (after (control_of x.frame) g)) → (ws : List ℕ) (xs : List Call) (g : Host) → Each (Says h) ws xs → P g → P (reads xs g)
  through P step [] [] g said p = p
  through P step [] (x ∷ xs) g said p = elim said [ ]
  through P step (w ∷ ws) [] g said p = elim said [ ]
  through P step (w ∷ ws) (x ∷ xs) g said p =
      through P step ws xs (read_of x.frame x.audio g).host said.1 (subst⁻¹ P (left x g said.0.good) (step w x g said.0 p))

  -- MOX, after one frame or more
  keyed : (w : ℕ) (x : Call) (g : Host) → Says h w x → (after (control_of x.frame) g).mox ≡ h.mox
  keyed w x g said = mox_follows (address (control_of x.frame)) (control_of x.frame) g ∙ said.keyed

  keyed_at_end : (w : ℕ) (ws : List ℕ) (xs : List Call) (g : Host) → Each (Says h) ws xs → among w ws ≡ true → (reads xs g).mox ≡ h.mox
  keyed_at_end w [] [] g said e = absurd (true≢false (sym e))
  keyed_at_end w [] (x ∷ xs) g said e = elim said [ ]
  keyed_at_end w (v ∷ ws) [] g said e = elim said [ ]
  keyed_at_end w (v ∷ ws) (x ∷ xs) g said e =
      through (λ k. k.mox ≡ h.mox) (λ u y k one had. keyed u y k one) ws xs (read_of x.frame x.audio g).host said.1 (ap (λ k. k.mox) (left x g said.0.good) ∙ keyed v x g said.0)

  seven_kept : (w : ℕ) (x : Call) (g : Host) → Says h w x → Seven g → Seven (after (control_of x.frame) g)
  seven_kept w x g said = still_seven (address (control_of x.frame)) (control_of x.frame) g

  -- a word, in a record of seven frequencies: one that is said is the same, and one that is the same stays so
  abbrev Done : ℕ → Host → Type 0
  Done w g = Seven g × Same w g h

  said_here : (w v : ℕ) (x : Call) (g : Host) → Says h v x → Seven g → w ≡ v → Done w (after (control_of x.frame) g)
  said_here w v x g said long same = (seven_kept v x g said long, rw same (said.fields g long))

  stays : (w v : ℕ) (x : Call) (g : Host) → Says h v x → Done w g → Done w (after (control_of x.frame) g)
  stays w v x g said done =
      by_test (eqb w v)
      (λ e. said_here w v x g said done.0 (eqb-true w v e))
      (λ e.
      let other : w ≡ address (control_of x.frame) → ⊥ = λ same. eqb-false w v e (same ∙ said.word) in
      (seven_kept v x g said done.0, same_same (others_kept (address (control_of x.frame)) (control_of x.frame) g w other) done.1))

  gained : (w : ℕ) (ws : List ℕ) (xs : List Call) (g : Host) → Each (Says h) ws xs → Seven g → among w ws ≡ true → Done w (reads xs g)
  gained w [] [] g said long e = absurd (true≢false (sym e))
  gained w [] (x ∷ xs) g said long e = elim said [ ]
  gained w (v ∷ ws) [] g said long e = elim said [ ]
  gained w (v ∷ ws) (x ∷ xs) g said long e =
      let next = left x g said.0.good in
      by_test (eqb w v)
      (λ here.
      through (Done w) (stays w) ws xs (read_of x.frame x.audio g).host said.1
      (subst⁻¹ (Done w) next (said_here w v x g said.0 long (eqb-true w v here))))
      (λ later.
      gained w ws xs (read_of x.frame x.audio g).host said.1
      (subst⁻¹ Seven next (seven_kept v x g said.0 long)) (rw later at e))

  pub wholly_told : (ws : List ℕ) (xs : List Call) (g : Host) → ((w : ℕ) → w ≤ last_word → among w ws ≡ true) → Each (Says h) ws xs → Seven h → Seven g → reads xs g ≡ h
  wholly_told ws xs g all said long-h long-g =
      let some : among 0 ws ≡ true = all 0 (omega arith) in
      wholly_same (reads xs g) h (keyed_at_end 0 ws xs g said some) (gained 0 ws xs g said long-g some).0 long-h
      (λ w listed. (gained w ws xs g said long-g (all w listed)).1)
