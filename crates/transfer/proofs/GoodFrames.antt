-- A transfer of good frames is read to its end. Assumes nothing.
use mathlib.Core.Path.{◌≡◌, ap, sym, ◌∙◌}
use mathlib.Core.Bool.{true, false≢true}
use mathlib.Core.List.{List}
use Prim.Native.Nat.{ℕ, ◌*◌, ◌<◌}
use native.Mathlib.Omega.{arith}
use lib.IntN.{ℤ}
use lib.ListN.{length, drop, length-drop}
use lib.Seq.{length-take-le}
use Rattle.wire.specs.Answers.{Accepted, accepts}
use Rattle.wire.specs.Sync.{sync_at}
use Rattle.wire.proofs.Cases.{by_order}
use Rattle.layout.specs.Slots.{slots, values}
use Rattle.radio_status.specs.declared.record.Status.{Status}
use Rattle.radio.specs.Read.{padded, level_answer}
use Rattle.radio.specs.Read as Read
use Rattle.radio.proofs.Cases as single
use Rattle.transfer.specs.SingleReads.{Standing, single_reads, single_answer}
use Rattle.transfer.specs.Steps.{Ready}
use Rattle.transfer.specs.Transfer.{count, frame_at, answer_of, transfer_of}
use Rattle.transfer.proofs.Cases.{good}
use Rattle.transfer.proofs.Room.{part_inside}
use Rattle.transfer.proofs.SingleReads.{equals_single_reads}
use Rattle.transfer.proofs.Untouched.{reads_keep, next_room}

module _ (input : List ℕ) (n : ℕ) (given : Standing) (passed : Ready (count (length input)) n (length input) (length given.iq) (length given.mic)) where
  abbrev total : ℕ
  total = count (length input)

  abbrev before : ℕ → Standing
  before k = single_reads input n k given

  -- a good frame's single read is accepted, whatever stood before it
  good_frame : (k : ℕ) → k < total → sync_at (frame_at input k) 0 ≡ true → padded n (frame_at input k) ≡ true → level_answer (frame_at input k) ≡ Accepted → single_answer input n k given ≡ Accepted
  good_frame k below synced clean leveled =
      let kept = reads_keep input n total given passed.iq_room passed.mic_room k (omega arith) in
      let iq = drop (k * values n) (before k).iq in
      let mic = drop (k * slots n) (before k).mic in
      let long : length (frame_at input k) ≡ 512 = length-take-le 512 (drop (k * 512) input) (omega (arith, length-drop (k * 512) input, passed.long)) in
      let iq_room = next_room (values n) k given.iq (before k).iq kept.0 (part_inside k total (values n) (length given.iq) below passed.iq_room) in
      let mic_room = next_room (slots n) k given.mic (before k).mic kept.1 (part_inside k total (slots n) (length given.mic) below passed.mic_room) in
      let before_levels = single.all_good (frame_at input k) n (length iq) (length mic) long iq_room mic_room synced clean in
      let answer = single.levels_left (frame_at input k) n (length iq) (length mic) passed.is_counted before_levels ∙ leveled in
      ap (λ (o : Read.Outcome). o.reading.answer) (single.read_taken (frame_at input k) n iq mic (before k).status answer)

-- no test refuses the whole, and each frame has its sync, its padding and no level above 4,095
pub good_frames_read : (input : List ℕ) (n : ℕ) (iq mic : List ℤ) (s : Status) → answer_of (length input) n (length iq) (length mic) ≡ Accepted
    → ((k : ℕ) → k < count (length input) → (sync_at (frame_at input k) 0 ≡ true) × (padded n (frame_at input k) ≡ true) × (level_answer (frame_at input k) ≡ Accepted))
    → ((transfer_of input n iq mic s).answer ≡ Accepted) × ((transfer_of input n iq mic s).frames ≡ count (length input))
good_frames_read input n iq mic s begun each =
    let o = transfer_of input n iq mic s in
    let given : Standing = record { status = s; iq = iq; mic = mic } in
    let reads = equals_single_reads input n iq mic s begun in
    by_order o.frames (count (length input))
    (λ fewer.
    let stop = reads.stopped fewer in
    let accepted = good_frame input n given (good (length input) n (length iq) (length mic) begun) o.frames fewer (each o.frames fewer).0 (each o.frames fewer).1 (each o.frames fewer).2 in
    absurd (false≢true (sym stop.1 ∙ ap accepts (sym stop.0 ∙ accepted))))
    (λ all. (reads.finished all, omega (arith, reads.no_more)))
