-- The parts of a frame that was written, as a reader finds them. Assumes nothing.
use mathlib.Core.Path.{◌≡◌, refl, ap, ◌∙◌}
use mathlib.Core.Bool.{true}
use mathlib.Core.List.{List, ◌++◌, append_assoc}
use Prim.Native.Nat.{ℕ, ◌-◌, ◌<◌}
use native.Mathlib.Omega.{arith}
use lib.IntN.{ℤ}
use lib.ListN.{length, get_or, drop, replicate, length-append, get_or-append}
use lib.Seq.{drop_at}
use Rattle.wire.specs.Answers.{first}
use Rattle.wire.specs.Every.{all_zero}
use Rattle.wire.specs.Lists.{tabs}
use Rattle.wire.specs.Sync.{sync_at}
use Rattle.wire.proofs.Everywhere.{zeros}
use Rattle.layout.specs.Slots.{slots, padding}
use Rattle.radio_status.specs.Levels.{level_tests}
use Rattle.radio_status.specs.Words.{address, word_at}
use Rattle.radio_status.specs.Control.{key_byte, word_bytes, header}
use Rattle.radio_status.specs.declared.record.Status.{Status}
use Rattle.radio_status.proofs.HeaderCases.{word_long}
use Rattle.radio_samples.specs.Fill.{slot_bytes}
use Rattle.radio.specs.Read.{byte, payload, word, padded, level_answer}
use Rattle.radio.specs.Write.{frame_of}
use Rattle.radio.proofs.FrameLaid.{before_padding}

module _ (s : Status) (w n : ℕ) (iq mic : List ℤ) where
  pub frame_sync : sync_at (frame_of s w n iq mic) 0 ≡ true
  unfolding frame_of
  frame_sync = refl

  pub frame_key : byte (frame_of s w n iq mic) 3 ≡ key_byte s w
  unfolding frame_of
  frame_key = refl

  control : (k : ℕ) → k < 4 → get_or (word_bytes s w ++ tabs (slots n) (slot_bytes n iq mic) ++ replicate (padding n) 0) k 0 ≡ get_or (word_bytes s w) k 0
  control k below =
      let in-word : k < length (word_bytes s w) = rw (word_long s w) below in
      get_or-append (word_bytes s w ++ tabs (slots n) (slot_bytes n iq mic)) (replicate (padding n) 0) 0 k
      (rw (length-append (word_bytes s w) (tabs (slots n) (slot_bytes n iq mic))) (omega arith))
      ∙ get_or-append (word_bytes s w) (tabs (slots n) (slot_bytes n iq mic)) 0 k in-word

  pub frame_word : word (frame_of s w n iq mic) ≡ word_at (address (key_byte s w)) (get_or (word_bytes s w) 0 0) (get_or (word_bytes s w) 1 0) (get_or (word_bytes s w) 2 0) (get_or (word_bytes s w) 3 0)
  unfolding frame_of
  frame_word = λ i. word_at (address (key_byte s w)) (control 0 (omega arith) i) (control 1 (omega arith) i) (control 2 (omega arith) i) (control 3 (omega arith) i)

  pub frame_levels : level_answer (frame_of s w n iq mic) ≡ first (level_tests (address (key_byte s w)) (get_or (word_bytes s w) 0 0) (get_or (word_bytes s w) 2 0))
  unfolding frame_of level_answer
  frame_levels = λ i. first (level_tests (address (key_byte s w)) (control 0 (omega arith) i) (control 2 (omega arith) i))

  pub frame_payload : payload (frame_of s w n iq mic) ≡ tabs (slots n) (slot_bytes n iq mic) ++ replicate (padding n) 0
  unfolding frame_of
  frame_payload =
      ap (drop 4) (append_assoc (word_bytes s w) (tabs (slots n) (slot_bytes n iq mic)) (replicate (padding n) 0))
      ∙ drop_at (word_bytes s w) (tabs (slots n) (slot_bytes n iq mic) ++ replicate (padding n) 0) 4 (word_long s w)

  pub frame_padded : padded n (frame_of s w n iq mic) ≡ true
  unfolding frame_of
  frame_padded =
      ap all_zero (drop_at (header s w ++ tabs (slots n) (slot_bytes n iq mic)) (replicate (padding n) 0) (512 - padding n) (before_padding s w n iq mic))
      ∙ zeros (padding n)
