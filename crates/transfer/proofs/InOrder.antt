-- The loop over the frames: what is left of them, read from here, leaves what all of them leave from the start. Assumes nothing.
use mathlib.Core.Path.{◌≡◌, refl, sym, ap, ap₂, ◌∙◌}
use mathlib.Core.Bool.{true, false}
use mathlib.Core.List.{List, [], ◌∷◌}
use Prim.Native.Nat.{ℕ, ◌+◌, ◌<◌, ◌≤◌}
use native.Mathlib.Numerals.{add-one}
use lib.IntN.{ℤ}
use lib.ListN.{length, drop, drop_of_length-le}
use lib.Seq.{drop-cons}
use Rattle.std.specs.Prelude.{Ok, Err}
use Rattle.wire.specs.Answers.{accepts}
use Rattle.wire.specs.declared.Refusal.{Refusal}
use Rattle.wire.proofs.Lists.{length-tab, get_or-tab}
use Rattle.radio_status.specs.declared.record.Status.{Status}
use Rattle.transfer.specs.Steps.{reached, next}
use Rattle.transfer.specs.Transfer.{Outcome, count, frame_at, frames_in, one_more, one_by_one}
use Rattle.radio.proofs.Cases.{not_accepted}

module _ (n : ℕ) (frame : List ℕ) (frames : List (List ℕ)) (o next : Outcome) (read : next ≡ one_more n o frame) where
  -- a frame is refused: there the reading stops
  pub stops : accepts next.answer ≡ false → next ≡ one_by_one n (frame ∷ frames) o
  unfolding one_by_one
  stops refused = rw (← read, refused)

  -- a frame is accepted: the reading goes on behind it
  pub goes_on : accepts next.answer ≡ true → one_by_one n frames next ≡ one_by_one n (frame ∷ frames) o
  unfolding one_by_one
  goes_on accepted = rw (← read, accepted)

pub none_left : (n : ℕ) (o : Outcome) → one_by_one n [] o ≡ o
unfolding one_by_one
none_left n o = refl

-- the frames from one of them on
pub from_frame : (input : List ℕ) (k : ℕ) → k < count (length input) → drop k (frames_in input) ≡ frame_at input k ∷ drop (k + 1) (frames_in input)
from_frame input k below =
    let many = count (length input) in
    drop-cons (frames_in input) k [] (rw (length-tab many (frame_at input)) below)
    ∙ ap₂ (λ f l. f ∷ drop l (frames_in input)) (get_or-tab many (frame_at input) k [] below) (sym (add-one k))

-- k frames are read, all of them accepted, and the record after them is s
pub record Going (n : ℕ) (input : List ℕ) (s₀ : Status) (iq₀ mic₀ iq mic : List ℤ) (k : ℕ) (s : Status) : Type 0 where
  pub same_iq : length iq ≡ length iq₀
  pub same_mic : length mic ≡ length mic₀
  pub rest : one_by_one n (drop k (frames_in input)) (reached k s iq mic) ≡ one_by_one n (frames_in input) (reached 0 s₀ iq₀ mic₀)

module _ (n : ℕ) (input : List ℕ) (s₀ : Status) (iq₀ mic₀ : List ℤ) where
  pub begins : Going n input s₀ iq₀ mic₀ iq₀ mic₀ 0 s₀
  begins = record { same_iq = refl; same_mic = refl; rest = refl }

  module _ (iq mic : List ℤ) (k : ℕ) (s : Status) (so_far : Going n input s₀ iq₀ mic₀ iq mic k s) where
    pub all_read : count (length input) ≤ k → reached k s iq mic ≡ one_by_one n (frames_in input) (reached 0 s₀ iq₀ mic₀)
    all_read over =
        let nothing : drop k (frames_in input) ≡ [] = drop_of_length-le (frames_in input) {i = k} (rw (length-tab (count (length input)) (frame_at input)) over) in
        sym (none_left n (reached k s iq mic)) ∙ ap (λ l. one_by_one n l (reached k s iq mic)) (sym nothing) ∙ so_far.rest

    -- the next frame's read
    module _ (below : k < count (length input)) (iq₁ mic₁ : List ℤ) where
      left : one_by_one n (frame_at input k ∷ drop (k + 1) (frames_in input)) (reached k s iq mic) ≡ one_by_one n (frames_in input) (reached 0 s₀ iq₀ mic₀)
      left = ap (λ l. one_by_one n l (reached k s iq mic)) (sym (from_frame input k below)) ∙ so_far.rest

      pub stopped : (refusal : Refusal) → next k s (Err refusal) iq₁ mic₁ ≡ one_more n (reached k s iq mic) (frame_at input k) → next k s (Err refusal) iq₁ mic₁ ≡ one_by_one n (frames_in input) (reached 0 s₀ iq₀ mic₀)
      stopped refusal read = stops n _ (drop (k + 1) (frames_in input)) (reached k s iq mic) (next k s (Err refusal) iq₁ mic₁) read (not_accepted refusal) ∙ left

      pub turn : (after : Status) → next k s (Ok after) iq₁ mic₁ ≡ one_more n (reached k s iq mic) (frame_at input k) → length iq₁ ≡ length iq → length mic₁ ≡ length mic → Going n input s₀ iq₀ mic₀ iq₁ mic₁ (k + 1) after
      turn after read same-iq₁ same-mic₁ =
          record {
            same_iq = same-iq₁ ∙ so_far.same_iq;
            same_mic = same-mic₁ ∙ so_far.same_mic;
            rest = goes_on n _ (drop (k + 1) (frames_in input)) (reached k s iq mic) (reached (k + 1) after iq₁ mic₁) read refl ∙ left;
          }
