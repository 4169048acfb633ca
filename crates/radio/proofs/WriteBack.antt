-- What a write makes of a frame that was read: the answer, and the frame's own bytes. Assumes nothing.
use mathlib.Core.Path.{◌≡◌, sym, ap, ap₂, ◌∙◌}
use mathlib.Core.Bool.{true, ◌&&◌}
use mathlib.Core.List.{List, [], ◌∷◌, append_assoc, ◌++◌}
use Prim.Native.Nat.{ℕ, ◌+◌, ◌-◌, ◌*◌, ◌≤◌}
use native.Mathlib.Omega.{arith}
use borrow.Author.Tests.{eqb-true}
use lib.Dec.{eqb}
use lib.IntN.{ℤ}
use lib.ListN.{length, take, drop, replicate, length-drop, take-append-drop}
use lib.Seq.{drop-drop, get_or-drop}
use Rattle.wire.specs.Fields.{bit}
use Rattle.wire.specs.Lists.{over, tabs}
use Rattle.wire.specs.Numbers.{Bytes}
use Rattle.wire.specs.Answers.{Accepted}
use Rattle.wire.proofs.Cases.{both_true}
use Rattle.wire.proofs.Everywhere.{zeros_are}
use Rattle.wire.proofs.Lists.{tab-get_or, length_over}
use Rattle.layout.specs.Slots.{slot, slots, padding, values}
use Rattle.layout.proofs.Places.{whole_payload}
use Rattle.radio_status.specs.Words.{address, keyed, applied}
use Rattle.radio_status.specs.Control.{word_bytes, header, versions_fit, levels_fit, status_fits}
use Rattle.radio_status.specs.declared.record.Status.{Status}
use Rattle.radio_status.proofs.HeaderCases.{leveled, levels_fit_lem}
use Rattle.radio_status.proofs.TwelveBits.{levels-applied}
use Rattle.radio_status.proofs.WordsAgain.{word_bytes_again, versions-again, key_again}
use Rattle.radio_samples.specs.Samples.{iq_at, mic_at}
use Rattle.radio_samples.specs.Fill.{slot_bytes}
use Rattle.radio_samples.proofs.SlotsAgain.{slots_again, samples_fit}
use Rattle.radio.specs.Read.{byte, payload, word, level_answer, after}
use Rattle.radio.specs.Write.{answer_of, frame_of}
use Rattle.radio.proofs.Cases.{Good}
use Rattle.radio.proofs.WriteCases.{answer-counted, all_good, range_good}

module _ (f : List ℕ) (n : ℕ) (iq mic : List ℤ) (s : Status) (small : Bytes f) (read : Good f n (length iq) (length mic)) where
  abbrev iq_read : List ℤ
  iq_read = over (values n) (iq_at n (payload f)) iq

  abbrev mic_read : List ℤ
  mic_read = over (slots n) (mic_at n (payload f)) mic

  payload_small : Bytes (payload f)
  payload_small i = rw (get_or-drop 8 f i 0) (small (8 + i))

  payload_long : length (payload f) ≡ 504
  payload_long = rw (length-drop 8 f, read.long)

  module _ (listed : address (byte f 3) ≤ 4) where
    record_again : status_fits s ≡ true → status_fits (after f s) ≡ true
    unfolding applied level_answer
    record_again fit =
        let both = both_true (versions_fit s.versions) (levels_fit s) fit in
        let versions = versions-again (byte f 4) (byte f 5) (byte f 6) (byte f 7) (small 4) (small 5) (small 6) (small 7) (address (byte f 3)) listed (keyed (byte f 3) s) both.0 in
        let levels = levels-applied (byte f 4) (byte f 5) (byte f 6) (byte f 7) (small 4) (small 5) (small 6) (small 7) (address (byte f 3)) read.leveled (byte f 3) s (leveled s both.1) in
        rw (versions, levels_fit_lem (after f s) levels)

    pub write_answer_again : (lent : ℕ) → lent ≡ 512 → status_fits s ≡ true → answer_of (after f s) (address (byte f 3)) n iq_read (length mic_read) lent ≡ Accepted
    write_answer_again lent long fit =
        answer-counted (after f s) (address (byte f 3)) n iq_read (length mic_read) lent read.is_counted
        ∙ all_good (after f s) (address (byte f 3)) n iq_read (length mic_read) lent long
        (rw (length_over (values n) (iq_at n (payload f)) iq read.iq_room) read.iq_room)
        (rw (length_over (slots n) (mic_at n (payload f)) mic read.mic_room) read.mic_room)
        (range_good (after f s) (address (byte f 3)) n iq_read (samples_fit n (payload f) payload_small payload_long iq mic) (record_again fit) listed)

    control_again : (address (byte f 3) ≡ 0 → bit (byte f 4) 7 ≡ 0) → word_bytes (after f s) (address (byte f 3)) ≡ byte f 4 ∷ byte f 5 ∷ byte f 6 ∷ byte f 7 ∷ []
    unfolding applied
    control_again clear = word_bytes_again (byte f 4) (byte f 5) (byte f 6) (byte f 7) (small 4) (small 5) (small 6) (small 7) (address (byte f 3)) listed clear _

    -- sync and the five control bytes
    header-again : (address (byte f 3) ≡ 0 → bit (byte f 4) 7 ≡ 0) → header (after f s) (address (byte f 3)) ≡ take 8 f
    header-again clear =
        let last = both_true (eqb (byte f 0) 0x7f && eqb (byte f 1) 0x7f) (eqb (byte f 2) 0x7f) read.synced in
        let first = both_true (eqb (byte f 0) 0x7f) (eqb (byte f 1) 0x7f) last.0 in
        let s0 = sym (eqb-true (byte f 0) 0x7f first.0) in
        let s1 = sym (eqb-true (byte f 1) 0x7f first.1) in
        let s2 = sym (eqb-true (byte f 2) 0x7f last.1) in
        (λ i. s0 i ∷ s1 i ∷ s2 i ∷ key_again (byte f 3) (small 3) (word f) s i ∷ control_again clear i)
        ∙ tab-get_or 8 f 0 (omega (arith, read.long))

    -- the padding was zero
    padding_again : replicate (padding n) 0 ≡ drop (slots n * slot n) (payload f)
    padding_again =
        let place : 8 + slots n * slot n ≡ 512 - padding n = omega (arith, whole_payload n) in
        let long : length (drop (512 - padding n) f) ≡ padding n = length-drop (512 - padding n) f ∙ omega (arith, read.long, whole_payload n) in
        sym (drop-drop (slots n * slot n) 8 f ∙ ap (λ k. drop k f) place ∙ zeros_are (drop (512 - padding n) f) read.clean ∙ ap (λ k. replicate k 0) long)

    pub frame_again : (address (byte f 3) ≡ 0 → bit (byte f 4) 7 ≡ 0) → frame_of (after f s) (address (byte f 3)) n iq_read mic_read ≡ f
    unfolding frame_of
    frame_again clear =
        append_assoc (header (after f s) (address (byte f 3))) (tabs (slots n) (slot_bytes n iq_read mic_read)) (replicate (padding n) 0)
        ∙ ap₂ ◌++◌ (header-again clear)
        (ap₂ ◌++◌ (slots_again n (payload f) payload_small payload_long iq mic) padding_again ∙ take-append-drop (slots n * slot n) (payload f))
        ∙ take-append-drop 8 f
