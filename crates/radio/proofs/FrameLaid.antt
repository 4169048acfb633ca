-- A whole frame that is written: its length, and its parts laid one after another. Assumes nothing.
use mathlib.Core.Path.{◌≡◌, sym, ap, ◌∙◌}
use mathlib.Core.List.{List, ◌++◌, append_assoc}
use Prim.Native.Nat.{ℕ, ◌-◌, ◌+◌}
use native.Mathlib.Omega.{arith}
use lib.IntN.{ℤ}
use lib.ListN.{length, replicate, length-append, length-replicate}
use lib.Seq.{sets, length-sets}
use Rattle.wire.specs.Lists.{tabs}
use Rattle.wire.proofs.Lists.{sets-append, sets-all}
use Rattle.layout.specs.Slots.{slots, padding}
use Rattle.layout.proofs.Places.{whole_payload}
use Rattle.radio_status.specs.Control.{header, header_over}
use Rattle.radio_status.specs.declared.record.Status.{Status}
use Rattle.radio_status.proofs.HeaderCases.{header-long, header-laid}
use Rattle.radio_samples.specs.Fill.{slot_bytes, payload_of, samples_over}
use Rattle.radio_samples.proofs.Roomy.{has_room, all_written}
use Rattle.radio_samples.proofs.SlotsLaid.{slots_long}
use Rattle.radio.specs.Write.{frame_of}
use Rattle.radio.proofs.WriteCases.{Good}

module _ (s : Status) (w n : ℕ) (iq mic : List ℤ) where
  pub before_padding : length (header s w ++ tabs (slots n) (slot_bytes n iq mic)) ≡ 512 - padding n
  before_padding =
      length-append (header s w) (tabs (slots n) (slot_bytes n iq mic)) ∙ rw (header-long s w, slots_long n iq mic) (omega (arith, whole_payload n))

  pub frame_long : length (frame_of s w n iq mic) ≡ 512
  unfolding frame_of
  frame_long =
      length-append (header s w ++ tabs (slots n) (slot_bytes n iq mic)) (replicate (padding n) 0)
      ∙ rw (before_padding, length-replicate {A = ℕ} (padding n) 0) (omega (arith, whole_payload n))

  -- over any frame of 512 bytes, header and payload leave the frame that is meant
  module _ (f : List ℕ) (passed : Good s w n iq (length mic) (length f)) where
    headed : header_over s w f ≡ sets f 0 (header s w)
    headed = header-laid s w f passed.status_fits_lem passed.listed (omega (arith, passed.long))

    filled : samples_over n iq mic (header_over s w f) ≡ sets (header_over s w f) 8 (payload_of n iq mic)
    filled =
        let same : length (header_over s w f) ≡ 512 = ap length headed ∙ length-sets f 0 (header s w) ∙ passed.long in
        all_written n iq mic (header_over s w f) (has_room n (length iq) (length mic) (length (header_over s w f)) 512 passed.is_counted passed.iq_room passed.mic_room same)

    pub frame_laid : (f₁ : List ℕ) → f₁ ≡ samples_over n iq mic (header_over s w f) → f₁ ≡ frame_of s w n iq mic
    unfolding frame_of
    frame_laid f₁ wrote =
        wrote ∙ filled ∙ ap (λ l. sets l 8 (payload_of n iq mic)) headed
        ∙ ap (λ k. sets (sets f 0 (header s w)) k (payload_of n iq mic)) (sym (ap (λ k. 0 + k) (header-long s w)))
        ∙ sets-append f 0 (header s w) (payload_of n iq mic)
        ∙ ap (sets f 0) (sym (append_assoc (header s w) (tabs (slots n) (slot_bytes n iq mic)) (replicate (padding n) 0)))
        ∙ sets-all f (header s w ++ tabs (slots n) (slot_bytes n iq mic) ++ replicate (padding n) 0) (frame_long ∙ sym passed.long)
