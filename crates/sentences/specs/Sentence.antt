-- T-05: the sentence about a place. Assumes nothing.
use Rattle.std.specs.Prelude.{ℕ, ◌+◌, ◌-◌, Bool, true, false, List, [], ◌∷◌, ◌++◌, ltb, get_or}
use Rattle.why.specs.declared.Reason.{Reason}
use Rattle.why.specs.declared.Reason.TheVariants.{NotGiven, Inside, Near, Far, Held}
use Rattle.sentences.specs.Parts.{labelled_of, wrong_of}
use Rattle.sentences.specs.Words.{byte_word, was_handed, frame_begins, was_skipped, sync_there, sync_later, still_held}

-- no place like this one can have the reason: none is given, the frame begins after it, or the byte is none of the three of a sync
abbrev pub no_reason : ℕ → Reason → Bool
no_reason place NotGiven = true
no_reason place (Inside q) = ltb place q
no_reason place (Near byte) = ltb 2 byte
no_reason place (Far byte) = ltb 2 byte
no_reason place Held = false

-- "byte 1,324 was handed out: it is byte 300 of the frame that begins at byte 1,024"
unfoldable pub inside_text : ℕ → ℕ → List ℕ
inside_text place q = labelled_of byte_word place ++ labelled_of was_handed (place - q) ++ labelled_of frame_begins q ++ (0x0a ∷ [])

-- "byte 2,100 was skipped: byte 0", which sync that is, and " is 33 and not 7F"
unfoldable pub skipped_text : ℕ → ℕ → List ℕ → ℕ → List ℕ
skipped_text place byte sync value = labelled_of byte_word place ++ labelled_of was_skipped byte ++ sync ++ wrong_of value

-- "byte 6,100 is still held: where the reading stopped, fewer than 515 bytes remain"
unfoldable pub held_text : ℕ → List ℕ
held_text place = labelled_of byte_word place ++ still_held

abbrev pub sentence_of : List ℕ → ℕ → Reason → List ℕ
sentence_of input place NotGiven = []
sentence_of input place (Inside q) = inside_text place q
sentence_of input place (Near byte) = skipped_text place byte sync_there (get_or input (place + byte) 0)
sentence_of input place (Far byte) = skipped_text place byte sync_later (get_or input (place + (512 + byte)) 0)
sentence_of input place Held = held_text place
