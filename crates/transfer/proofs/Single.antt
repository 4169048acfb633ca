-- What a single read leaves of what it was lent: a refused one all of it, and any one what stands behind a frame's values. Assumes nothing.
use mathlib.Core.Path.{◌≡◌, refl, subst⁻¹}
use mathlib.Core.Bool.{false, true≢false}
use mathlib.Core.List.{List}
use Prim.Native.Nat.{ℕ, ◌≤◌}
use lib.IntN.{ℤ}
use lib.ListN.{length, drop}
use lib.Seq.{drop_at}
use Rattle.wire.specs.Answers.{Answer, accepts}
use Rattle.wire.specs.Lists.{tab, over}
use Rattle.wire.proofs.Cases.{by_test}
use Rattle.wire.proofs.First.{accepts-only}
use Rattle.wire.proofs.Lists.{length-tab, length_over}
use Rattle.layout.specs.Slots.{slots, values}
use Rattle.radio_status.specs.declared.record.Status.{Status}
use Rattle.radio.specs.Read.{Outcome, answer_of, refused, taken, read_of}
use Rattle.radio.proofs.Cases.{read-refused, read_taken}

-- n values written over the start of a list change neither its length nor what stands behind them
over-keeps : {A : Type 0} (n : ℕ) (f : ℕ → A) (xs : List A) → n ≤ length xs → (length (over n f xs) ≡ length xs) × (drop n (over n f xs) ≡ drop n xs)
over-keeps n f xs room = (length_over n f xs room, drop_at (tab n f) (drop n xs) n (length-tab n f))

module _ (frame : List ℕ) (n : ℕ) (iq mic : List ℤ) (s : Status) where
  -- a read is refused or it takes its frame
  pub by_read : (P : Outcome → Type 0) → P (taken frame n iq mic s) → ((answer : Answer) → accepts answer ≡ false → P (refused answer iq mic s)) → P (read_of frame n iq mic s)
  by_read P when-taken when-refused =
      let answer = answer_of frame n (length iq) (length mic) in
      by_test (accepts answer)
      (λ is. subst⁻¹ P (read_taken frame n iq mic s (accepts-only answer is)) when-taken)
      (λ isn't. subst⁻¹ P (read-refused frame n iq mic s answer refl isn't) (when-refused answer isn't))

  pub refused-back : accepts (read_of frame n iq mic s).reading.answer ≡ false → read_of frame n iq mic s ≡ refused (read_of frame n iq mic s).reading.answer iq mic s
  refused-back = by_read (λ o. accepts o.reading.answer ≡ false → o ≡ refused o.reading.answer iq mic s) (λ isn't. absurd (true≢false isn't)) (λ answer isn't _. refl)

  -- of the slices, the length and what stands behind a frame's values
  pub keeps-iq : values n ≤ length iq → (length (read_of frame n iq mic s).iq ≡ length iq) × (drop (values n) (read_of frame n iq mic s).iq ≡ drop (values n) iq)
  keeps-iq room = by_read (λ o. (length o.iq ≡ length iq) × (drop (values n) o.iq ≡ drop (values n) iq)) (over-keeps (values n) _ iq room) (λ answer isn't. (refl, refl))

  pub keeps-mic : slots n ≤ length mic → (length (read_of frame n iq mic s).mic ≡ length mic) × (drop (slots n) (read_of frame n iq mic s).mic ≡ drop (slots n) mic)
  keeps-mic room = by_read (λ o. (length o.mic ≡ length mic) × (drop (slots n) o.mic ≡ drop (slots n) mic)) (over-keeps (slots n) _ mic room) (λ answer isn't. (refl, refl))
