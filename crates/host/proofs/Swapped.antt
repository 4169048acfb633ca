-- In every slot of a frame that was read or built, the caller's I stands in the bytes drawn as Q and its Q in those drawn as I. Assumes nothing.
use mathlib.Core.Path.{◌≡◌, sym, ap, ap₂, ◌∙◌}
use mathlib.Core.List.{List, [], ◌∷◌}
use Prim.Native.Nat.{ℕ, ◌+◌, ◌*◌, ◌<◌}
use native.Mathlib.Nat.{add-zero}
use native.Mathlib.Omega.{arith}
use lib.IntN.{ℤ, pos}
use lib.ListN.{get_or}
use lib.Seq.{get_or-drop}
use Rattle.wire.specs.Answers.{Accepted}
use Rattle.wire.proofs.Lists.{get_d_over}
use Rattle.wire.specs.Numbers.{be, signed, Samples16}
use Rattle.host_record.specs.declared.record.Host.{Host}
use Rattle.host_samples.proofs.SampleTrip.{number_back}
use Rattle.host_samples.proofs.Slots.{standing-in}
use Rattle.host_samples.specs.Samples.{pair_of, pair, number, numbers, payload_of}
use Rattle.host.specs.declared.Builder.{Builder}
use Rattle.host.specs.Build.{build_of, frame_of}
use Rattle.host.specs.Read.{read_of}
use Rattle.host.specs.Swapped.{drawn, Swapped}
use Rattle.host.proofs.BuildCases.{build_answer, build-accepted}
use Rattle.host.proofs.BuiltFrame.{payload_built}
use Rattle.host.proofs.ReadCases.{read_answer, read_accepted}

module _ (frame : List ℕ) (audio : List ℤ) (t : ℕ) where
  -- number j of the slot, by the two bytes in which it stands
  number-drawn : (j : ℕ) → j < 4 → number (payload_of frame) (t * 4 + j) ≡ drawn (pair_of j * 2) frame t
  number-drawn j h =
      let first : 8 + (t * 4 + pair_of j) * 2 ≡ 8 + t * 8 + pair_of j * 2 = omega arith in
      let second : 8 + ((t * 4 + pair_of j) * 2 + 1) ≡ 8 + t * 8 + pair_of j * 2 + 1 = omega arith in
      ap (pair (payload_of frame)) (standing-in t j h)
      ∙ ap₂ (λ a b. signed 16 (be (a ∷ b ∷ [])))
      (get_or-drop 8 frame _ 0 ∙ ap (λ k. get_or frame k 0) first)
      (get_or-drop 8 frame _ 0 ∙ ap (λ k. get_or frame k 0) second)

  swapped : ((k : ℕ) → k < 252 → get_or audio k (pos 0) ≡ number (payload_of frame) k) → t < 63 → Swapped frame audio t
  swapped stands inside =
      let at : (j : ℕ) → j < 4 → get_or audio (t * 4 + j) (pos 0) ≡ drawn (pair_of j * 2) frame t = λ j h. stands (t * 4 + j) (omega arith) ∙ number-drawn j h in
      record {
        l = ap (λ k. get_or audio k (pos 0)) (sym (add-zero (t * 4))) ∙ at 0 (omega arith);
        r = at 1 (omega arith);
        i = at 2 (omega arith);
        q = at 3 (omega arith);
      }

-- a frame that was read
pub read_swapped : (frame : List ℕ) (out : List ℤ) (h : Host) → (read_of frame out h).answer ≡ Accepted → (t : ℕ) → t < 63 → Swapped frame (read_of frame out h).audio t
unfolding numbers
read_swapped frame out h answered t inside =
    rw (read_accepted frame out h (sym (read_answer frame out h) ∙ answered))
    (swapped frame (numbers (payload_of frame) out) t (λ k below. get_d_over 252 (number (payload_of frame)) out k (pos 0) below) inside)

-- a frame that was built
pub built_swapped : (b : Builder) (audio : List ℤ) (frame : List ℕ) → Samples16 audio → (build_of b audio frame).answer ≡ Accepted → (t : ℕ) → t < 63 → Swapped (build_of b audio frame).frame audio t
built_swapped b audio frame sixteen answered t inside =
    rw (build-accepted b audio frame (sym (build_answer b audio frame) ∙ answered))
    (swapped (frame_of b audio) audio t (λ k below. sym (ap (λ p. number p k) (payload_built b audio) ∙ number_back audio sixteen k below)) inside)
