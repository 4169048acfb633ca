-- A transfer, accepted or refused, changes no element of the slices past the values of the frames that were read. Assumes nothing.
use mathlib.Core.Path.{◌≡◌, refl, sym, ap, ◌∙◌}
use mathlib.Core.List.{List, ◌++◌}
use Prim.Native.Nat.{ℕ, zero, suc, ◌+◌, ◌*◌, ◌≤◌}
use native.Mathlib.Nat.{suc-mul}
use native.Mathlib.Omega.{arith}
use lib.IntN.{ℤ}
use lib.ListN.{length, take, drop, length-append, length-drop}
use lib.Seq.{drop-drop, drop_at, length-take-le}
use Rattle.layout.specs.Slots.{slots, values}
use Rattle.radio_status.specs.declared.record.Status.{Status}
use Rattle.transfer.specs.SingleReads.{Standing, single_reads, Untouched}
use Rattle.transfer.specs.Transfer.{count, frame_at, transfer_of}
use Rattle.transfer.proofs.Cases.{good}
use Rattle.transfer.proofs.Room.{part_inside}
use Rattle.transfer.proofs.Single.{keeps-iq, keeps-mic}
use Rattle.transfer.proofs.SingleReads.{equals_single_reads, by_begun}

-- a list over which k parts of v values were written
pub record Kept {A : Type 0} (v k : ℕ) (xs₀ xs : List A) : Type 0 where
  pub long : length xs ≡ length xs₀
  pub behind : drop (k * v) xs ≡ drop (k * v) xs₀

module _ {A : Type 0} (v k : ℕ) (xs₀ xs : List A) (kept : Kept v k xs₀ xs) (room : k * v + v ≤ length xs₀) where
  -- behind those parts there is room for the next
  pub next_room : v ≤ length (drop (k * v) xs)
  next_room = rw (length-drop (k * v) xs, kept.long) (omega arith)

  -- one part more
  pub one_part : (ys : List A) → length ys ≡ length (drop (k * v) xs) → drop v ys ≡ drop v (drop (k * v) xs) → Kept v (suc k) xs₀ (take (k * v) xs ++ ys)
  one_part ys same rest =
      let before : length (take (k * v) xs) ≡ k * v = length-take-le (k * v) xs (omega (arith, kept.long)) in
      let ends : suc k * v ≡ k * v + v = suc-mul k v in
      record {
        long = length-append (take (k * v) xs) ys ∙ omega (arith, before, same, length-drop (k * v) xs, kept.long);
        behind =
            ap (λ m. drop m (take (k * v) xs ++ ys)) ends
            ∙ sym (drop-drop v (k * v) (take (k * v) xs ++ ys))
            ∙ ap (drop v) (drop_at (take (k * v) xs) ys (k * v) before)
            ∙ rest
            ∙ ap (drop v) kept.behind
            ∙ drop-drop v (k * v) xs₀
            ∙ ap (λ m. drop m xs₀) (sym ends);
      }

module _ (input : List ℕ) (n frames : ℕ) (given : Standing) (iq_room : frames * values n ≤ length given.iq) (mic_room : frames * slots n ≤ length given.mic) where
  pub reads_keep : (k : ℕ) → k ≤ frames → Kept (values n) k given.iq (single_reads input n k given).iq × Kept (slots n) k given.mic (single_reads input n k given).mic
  reads_keep zero few = (record { long = refl; behind = refl }, record { long = refl; behind = refl })
  reads_keep (suc k) few =
      let before = single_reads input n k given in
      let kept = reads_keep k (omega arith) in
      let iq-part = part_inside k frames (values n) (length given.iq) few iq_room in
      let mic-part = part_inside k frames (slots n) (length given.mic) few mic_room in
      let iq-rest = drop (k * values n) before.iq in
      let mic-rest = drop (k * slots n) before.mic in
      let iq-kept = keeps-iq (frame_at input k) n iq-rest mic-rest before.status (next_room (values n) k given.iq before.iq kept.0 iq-part) in
      let mic-kept = keeps-mic (frame_at input k) n iq-rest mic-rest before.status (next_room (slots n) k given.mic before.mic kept.1 mic-part) in (
        one_part (values n) k given.iq before.iq kept.0 iq-part _ iq-kept.0 iq-kept.1,
        one_part (slots n) k given.mic before.mic kept.1 mic-part _ mic-kept.0 mic-kept.1,
      )

pub untouched : (input : List ℕ) (n : ℕ) (iq mic : List ℤ) (s : Status) → Untouched n iq mic (transfer_of input n iq mic s)
untouched input n iq mic s =
    let o = transfer_of input n iq mic s in
    let given : Standing = record { status = s; iq = iq; mic = mic } in
    by_begun input n iq mic s (Untouched n iq mic) (λ _. (refl, refl))
    (λ is.
    let passed = good (length input) n (length iq) (length mic) is in
    let reads = equals_single_reads input n iq mic s is in
    let kept = reads_keep input n (count (length input)) given passed.iq_room passed.mic_room o.frames reads.no_more in (
      ap (λ (h : Standing). drop (o.frames * values n) h.iq) reads.left ∙ kept.0.behind,
      ap (λ (h : Standing). drop (o.frames * slots n) h.mic) reads.left ∙ kept.1.behind,
    ))
