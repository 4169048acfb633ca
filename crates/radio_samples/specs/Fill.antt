-- Document 01, "Frame and slots": the bytes of samples that are written, for n receivers. Assumes nothing.
use Rattle.std.specs.Prelude.{ℕ, ◌+◌, ◌*◌, cond, List, ◌++◌, ℤ, pos, length, get_or, replicate}
use Rattle.std.proofs.lemmas.List.Edits.{sets}
use Rattle.wire.specs.Lists.{tabs}
use Rattle.wire.specs.Numbers.{bytes_of, unsigned}
use Rattle.layout.specs.Slots.{slots, padding}
use Rattle.radio_samples.specs.Samples.{roomy}

-- "I then Q (3 bytes each) for receiver 1 to n, then 2 microphone bytes"
abbrev pub iq_bytes : List ℤ → ℕ → List ℕ
iq_bytes iq k = bytes_of 3 (unsigned 24 (get_or iq k (pos 0)))

abbrev pub mic_bytes : List ℤ → ℕ → List ℕ
mic_bytes mic t = bytes_of 2 (unsigned 16 (get_or mic t (pos 0)))

abbrev pub slot_bytes : ℕ → List ℤ → List ℤ → ℕ → List ℕ
slot_bytes n iq mic t = tabs (2 * n) (λ j. iq_bytes iq (t * (2 * n) + j)) ++ mic_bytes mic t

-- "As many whole slots as fit fill the payload; the rest is zero."
abbrev pub payload_of : ℕ → List ℤ → List ℤ → List ℕ
payload_of n iq mic = tabs (slots n) (slot_bytes n iq mic) ++ replicate (padding n) 0

-- the payload over a frame from byte 8 on; where it cannot be, the frame as it was
unfoldable pub samples_over : ℕ → List ℤ → List ℤ → List ℕ → List ℕ
samples_over n iq mic frame =
    cond (roomy n (length iq) (length mic) (length frame) 512) (sets frame 8 (payload_of n iq mic)) frame
