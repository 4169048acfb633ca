-- Any two outcomes that the contract of a call admits coincide: the answer with what comes back
-- beside it, and every lent slice at exit.
-- Assumes nothing.
use mathlib.Core.Path.{◌≡◌, ap}
use mathlib.Core.List.{List}
use Prim.Native.Nat.{ℕ}
use lib.IntN.{ℤ}
use Rattle.radio.specs.Read.{Outcome, read_of, gave, left}
use Rattle.radio.specs.Export.{shown, numbered}
use Rattle.radio.specs.Write.{write_of, gave as wrote}
use Rattle.std.specs.Prelude.{Result, Ok, Err}
use Rattle.wire.specs.Answers.{Answer}
use Rattle.wire.specs.declared.Refusal.{Refusal}
use Rattle.radio_status.specs.declared.record.Status.{Status}
use Rattle.radio_status.specs.declared.words.Word.{Word}
use Rattle.radio.specs.declared.Reading.{Reading}
use Rattle.wire.proofs.Settled.{settled}

module _ (frame : List ℕ) (n : ℕ) (iq mic : List ℤ) (s : Status) where
  pub read_settled : (r r' : Result Reading Refusal) (iq₁ iq₂ mic₁ mic₂ : List ℤ) → gave s r iq₁ mic₁ ≡ read_of frame n iq mic s → gave s r' iq₂ mic₂ ≡ read_of frame n iq mic s → (r ≡ r') × (iq₁ ≡ iq₂) × (mic₁ ≡ mic₂)
  read_settled (Ok r) (Ok r') iq₁ iq₂ mic₁ mic₂ one other =
      let same = settled one other in
      (ap (λ o. Ok (record { word = o.reading.word; status = o.reading.status })) same, ap (λ o. o.iq) same, ap (λ o. o.mic) same)
  read_settled (Ok r) (Err e) iq₁ iq₂ mic₁ mic₂ one other = let same = ap (λ (o : Outcome). o.reading.answer) (settled one other) in absurd (cc)
  read_settled (Err e) (Ok r) iq₁ iq₂ mic₁ mic₂ one other = let same = ap (λ (o : Outcome). o.reading.answer) (settled one other) in absurd (cc)
  read_settled (Err e) (Err e') iq₁ iq₂ mic₁ mic₂ one other =
      let same = settled one other in
      let refusal = ap (λ (o : Outcome). o.reading.answer) same in
      (cc, ap (λ o. o.iq) same, ap (λ o. o.mic) same)

  pub update_settled : (r r' : Result Word Refusal) (s₁ s₂ : Status) (iq₁ iq₂ mic₁ mic₂ : List ℤ) → left r s₁ iq₁ mic₁ ≡ read_of frame n iq mic s → left r' s₂ iq₂ mic₂ ≡ read_of frame n iq mic s → (r ≡ r') × (s₁ ≡ s₂) × (iq₁ ≡ iq₂) × (mic₁ ≡ mic₂)
  update_settled (Ok w) (Ok w') s₁ s₂ iq₁ iq₂ mic₁ mic₂ one other =
      let same = settled one other in
      (ap (λ o. Ok o.reading.word) same, ap (λ o. o.reading.status) same, ap (λ o. o.iq) same, ap (λ o. o.mic) same)
  update_settled (Ok w) (Err e) s₁ s₂ iq₁ iq₂ mic₁ mic₂ one other = let same = ap (λ (o : Outcome). o.reading.answer) (settled one other) in absurd (cc)
  update_settled (Err e) (Ok w) s₁ s₂ iq₁ iq₂ mic₁ mic₂ one other = let same = ap (λ (o : Outcome). o.reading.answer) (settled one other) in absurd (cc)
  update_settled (Err e) (Err e') s₁ s₂ iq₁ iq₂ mic₁ mic₂ one other =
      let same = settled one other in
      let refusal = ap (λ (o : Outcome). o.reading.answer) same in
      (cc, ap (λ o. o.reading.status) same, ap (λ o. o.iq) same, ap (λ o. o.mic) same)

  pub radio_update_settled : (k k' : ℕ) (s₁ s₂ : Status) (iq₁ iq₂ mic₁ mic₂ : List ℤ) → shown k s₁ iq₁ mic₁ ≡ numbered (read_of frame n iq mic s) → shown k' s₂ iq₂ mic₂ ≡ numbered (read_of frame n iq mic s) → (k ≡ k') × (s₁ ≡ s₂) × (iq₁ ≡ iq₂) × (mic₁ ≡ mic₂)
  radio_update_settled k k' s₁ s₂ iq₁ iq₂ mic₁ mic₂ one other =
      let same = settled one other in
      (ap (λ o. o.number) same, ap (λ o. o.status) same, ap (λ o. o.iq) same, ap (λ o. o.mic) same)

module _ (s : Status) (w n : ℕ) (iq mic : List ℤ) (frame : List ℕ) where
  pub write_settled : (a a' : Answer) (frame₁ frame₂ : List ℕ) → wrote a frame₁ ≡ write_of s w n iq mic frame → wrote a' frame₂ ≡ write_of s w n iq mic frame → (a ≡ a') × (frame₁ ≡ frame₂)
  write_settled a a' frame₁ frame₂ one other =
      let same = settled one other in
      (ap (λ o. o.answer) same, ap (λ o. o.frame) same)
