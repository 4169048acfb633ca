-- What a read finds in a frame that was written: the answer, the word, the record, and the samples. Assumes nothing.
use mathlib.Core.Path.{◌≡◌, ap, ◌∙◌}
use mathlib.Core.List.{List, ◌++◌}
use Prim.Native.Nat.{ℕ, ◌≤◌}
use lib.IntN.{ℤ}
use lib.ListN.{length, get_or, take, drop, replicate}
use Rattle.wire.specs.Answers.{Accepted, first}
use Rattle.wire.specs.Lists.{over}
use Rattle.layout.specs.Slots.{slots, values, padding}
use Rattle.layout.proofs.Lookup.{range}
use Rattle.wire.specs.Numbers.{Samples16}
use Rattle.radio_status.specs.RoundTrip.{word_from, with_keys}
use Rattle.radio_status.specs.Levels.{level_tests}
use Rattle.radio_status.specs.Words.{applied, carried, keyed, word_at}
use Rattle.radio_status.specs.Control.{word_bytes, Versioned, Leveled}
use Rattle.radio_status.specs.declared.record.Status.{Status}
use Rattle.radio_status.proofs.WordsBack.{address_back, keys_back, word_back, levels_pass}
use Rattle.radio_status.proofs.HeaderCases.{writable}
use Rattle.radio_samples.specs.Samples.{iq_at, mic_at}
use Rattle.radio_samples.proofs.SamplesBack.{all_iq_back, all_mic_back}
use Rattle.radio.specs.Read.{answer_of, level_answer, after, payload, word}
use Rattle.radio.specs.Write.{frame_of}
use Rattle.radio.proofs.Cases.{levels_left, all_good}
use Rattle.radio.proofs.FrameLaid.{frame_long}
use Rattle.radio.proofs.FrameParts.{frame_sync, frame_key, frame_word, frame_levels, frame_payload, frame_padded}
use Rattle.radio.proofs.WriteCases.{Good}

module _ (s : Status) (w n : ℕ) (iq mic : List ℤ) (lent : ℕ) (wrote : Good s w n iq (length mic) lent) where
  abbrev fits : Versioned s.versions × Leveled s
  fits = writable s wrote.status_fits_lem

  levels_back : level_answer (frame_of s w n iq mic) ≡ Accepted
  levels_back =
      frame_levels s w n iq mic
      ∙ ap (λ a. first (level_tests a (get_or (word_bytes s w) 0 0) (get_or (word_bytes s w) 2 0))) (address_back s w wrote.listed)
      ∙ levels_pass s fits.0 fits.1 w wrote.listed

  pub answer_back : (iq' mic' : ℕ) → values n ≤ iq' → slots n ≤ mic' → answer_of (frame_of s w n iq mic) n iq' mic' ≡ Accepted
  answer_back iq' mic' iq_room mic_room =
      levels_left _ n iq' mic' wrote.is_counted (all_good _ n iq' mic' (frame_long s w n iq mic) iq_room mic_room (frame_sync s w n iq mic) (frame_padded s w n iq mic))
      ∙ levels_back

  pub word_again : word (frame_of s w n iq mic) ≡ word_from s w
  word_again =
      frame_word s w n iq mic
      ∙ ap (λ a. word_at a (get_or (word_bytes s w) 0 0) (get_or (word_bytes s w) 1 0) (get_or (word_bytes s w) 2 0) (get_or (word_bytes s w) 3 0)) (address_back s w wrote.listed)
      ∙ word_back s fits.0 fits.1 w wrote.listed

  pub record_again : (into : Status) → after (frame_of s w n iq mic) into ≡ carried (word_from s w) (with_keys s into)
  unfolding applied
  record_again into =
      ap (λ k. carried (word (frame_of s w n iq mic)) (keyed k into)) (frame_key s w n iq mic)
      ∙ ap (carried (word (frame_of s w n iq mic))) (keys_back s w wrote.listed into)
      ∙ ap (λ x. carried x (with_keys s into)) word_again

  pub iq-again : (iq' : List ℤ) → over (values n) (iq_at n (payload (frame_of s w n iq mic))) iq' ≡ take (values n) iq ++ drop (values n) iq'
  iq-again iq' =
      ap (λ p. over (values n) (iq_at n p) iq') (frame_payload s w n iq mic)
      ∙ ap (λ l. l ++ drop (values n) iq') (all_iq_back n iq mic (replicate (padding n) 0) (range n wrote.is_counted).0 wrote.iq_room wrote.fit)

  pub mic_again : Samples16 mic → (mic' : List ℤ) → over (slots n) (mic_at n (payload (frame_of s w n iq mic))) mic' ≡ take (slots n) mic ++ drop (slots n) mic'
  mic_again small mic' =
      ap (λ p. over (slots n) (mic_at n p) mic') (frame_payload s w n iq mic)
      ∙ ap (λ l. l ++ drop (slots n) mic') (all_mic_back n iq mic (replicate (padding n) 0) wrote.mic_room small)
