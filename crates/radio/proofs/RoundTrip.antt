-- "Reading what was written gives the values back. Writing what was read gives the frame back." Document 01, under the table of nine.
--
-- The conditions are document 01's, and T-08's: a record's levels are up to 4,095, which an accepted write has tested and which the record
-- lent to a read has. Beside them stand what the types say, since a definition's numbers have no width: microphone values fit 16 bits
-- (`Samples16`), a frame's elements are bytes (`Bytes`).
-- Assumes nothing.
use mathlib.Core.Path.{◌≡◌, sym, ap, ◌∙◌}
use mathlib.Core.Bool.{true}
use mathlib.Core.List.{List, ◌++◌}
use Prim.Native.Nat.{ℕ, ◌≤◌}
use lib.IntN.{ℤ}
use lib.ListN.{length, take, drop}
use Rattle.wire.specs.Answers.{Accepted}
use Rattle.layout.specs.Slots.{slots, values}
use Rattle.wire.specs.Fields.{bit}
use Rattle.wire.specs.Numbers.{Bytes, Samples16}
use Rattle.radio_status.specs.RoundTrip.{word_from, with_keys}
use Rattle.radio_status.specs.Words.{address, carried}
use Rattle.radio_status.specs.Control.{status_fits}
use Rattle.radio_status.specs.declared.record.Status.{Status}
use Rattle.radio.specs.Read.{byte, read_of, outcome}
use Rattle.radio.specs.Write.{frame_of, write_of, gave as wrote}
use Rattle.radio.proofs.Cases.{good, read_accepted, read_taken, read_gives}
use Rattle.radio.proofs.ReadBack.{answer_back, word_again, record_again, iq-again, mic_again}
use Rattle.radio.proofs.WriteBack.{write_answer_again, frame_again}
use Rattle.radio.proofs.WriteCases as write

-- A frame that was written from a record for word w, read into any record and into any slices that are long enough, gives the samples,
-- the word, DOT, DASH and PTT, and every field that the word carries; the rest of the record and of the slices is as it was.
module _ (s : Status) (w n : ℕ) (iq mic : List ℤ) (lent : List ℕ) (into : Status) (iq' mic' : List ℤ) where
  pub reading_what_was_written : Samples16 mic → (write_of s w n iq mic lent).answer ≡ Accepted → values n ≤ length iq' → slots n ≤ length mic' → read_of (write_of s w n iq mic lent).frame n iq' mic' into ≡ outcome (record { answer = Accepted; word = word_from s w; status = carried (word_from s w) (with_keys s into) }) (take (values n) iq ++ drop (values n) iq') (take (slots n) mic ++ drop (slots n) mic')
  reading_what_was_written small accepted iq_room mic_room =
      let written = write.write_accepted s w n iq mic lent accepted in
      let passed = write.good s w n iq (length mic) (length lent) written in
      ap (λ f. read_of f n iq' mic' into) (ap (λ o. o.frame) (write.write_taken s w n iq mic lent written))
      ∙ sym (read_gives (frame_of s w n iq mic) n iq' mic' into (answer_back s w n iq mic (length lent) passed (length iq') (length mic') iq_room mic_room)
      (record { answer = Accepted; word = word_from s w; status = carried (word_from s w) (with_keys s into) }) (take (values n) iq ++ drop (values n) iq') (take (slots n) mic ++ drop (slots n) mic')
      (λ i. record {
        answer = Accepted;
        word = sym (word_again s w n iq mic (length lent) passed) i;
        status = sym (record_again s w n iq mic (length lent) passed into) i;
      })
      (sym (iq-again s w n iq mic (length lent) passed iq'))
      (sym (mic_again s w n iq mic (length lent) passed small mic')))

-- A frame that a read accepted, with a listed word, written again from what the read gave: the same frame, byte for byte. Word 0's C1
-- bit 7 was clear, and the record lent to the read had no version and no level out of range.
module _ (f : List ℕ) (n : ℕ) (iq mic : List ℤ) (s : Status) (lent : List ℕ) where
  pub writing_what_was_read : Bytes f → (read_of f n iq mic s).reading.answer ≡ Accepted → address (byte f 3) ≤ 4 → (address (byte f 3) ≡ 0 → bit (byte f 4) 7 ≡ 0) → status_fits s ≡ true → length lent ≡ 512 → write_of (read_of f n iq mic s).reading.status (address (byte f 3)) n (read_of f n iq mic s).iq (read_of f n iq mic s).mic lent ≡ wrote Accepted f
  writing_what_was_read small accepted listed clear fit long =
      let was_read = read_accepted f n iq mic s accepted in
      let passed = good f n (length iq) (length mic) was_read in
      ap (λ o. write_of o.reading.status (address (byte f 3)) n o.iq o.mic lent) (read_taken f n iq mic s was_read)
      ∙ sym (write.write_gives _ _ _ _ _ lent (write_answer_again f n iq mic s small passed listed (length lent) long fit) f (sym (frame_again f n iq mic s small passed listed clear)))
