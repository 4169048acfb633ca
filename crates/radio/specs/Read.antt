-- Reading a radio frame: the refusals in the order of document 01's table, and the whole outcome. Assumes nothing.
use Rattle.std.specs.Prelude.{ℕ, ◌+◌, ◌-◌, Bool, cond, not, ◌||◌, List, [], ◌∷◌, ◌++◌, eqb, ltb, ℤ, length, get_or, drop, Result, Ok, Err}
use Rattle.wire.specs.Answers.{Answer, Accepted, Test, ◌gives◌, first, accepts, reserving}
use Rattle.wire.specs.Lists.{over}
use Rattle.wire.specs.Sync.{sync_at, no_sync}
use Rattle.wire.specs.Places.{first_other}
use Rattle.wire.specs.Every.{all_zero}
use Rattle.wire.specs.declared.Cause.{Cause}
use Rattle.wire.specs.declared.Refusal.{Refusal}
use Rattle.wire.specs.declared.Refusal.TheVariants.{BadCount, Length, ShortBuffer, Padding}
use Rattle.layout.specs.Slots.{counted, slots, padding, values}
use Rattle.radio_status.specs.Levels.{is_above, levels_at}
use Rattle.radio_status.specs.Words.{address, word_with, word_of, applied}
use Rattle.radio_status.specs.declared.levels.TwoLevels.{TwoLevels}
use Rattle.radio_status.specs.declared.record.Status.{Status}
use Rattle.radio_status.specs.declared.words.Word.{Word}
use Rattle.radio_status.specs.declared.words.Word.TheVariants.{Unlisted}
use Rattle.radio_samples.specs.Samples.{iq_at, mic_at}
use Rattle.radio.specs.declared.Reading.{Reading as Given}

-- "7F 7F 7F, then C0 to C4, then 504 bytes of payload"
abbrev pub byte : List ℕ → ℕ → ℕ
byte frame k = get_or frame k 0

abbrev pub payload : List ℕ → List ℕ
payload frame = drop 8 frame

abbrev pub word : List ℕ → Word
word frame = word_of (byte frame 3) (byte frame 4) (byte frame 5) (byte frame 6) (byte frame 7)

-- T-08: which levels of the frame's word are above 4,095, and the answer to the first of them
abbrev pub above : List ℕ → Cause → Bool
above frame = is_above (address (byte frame 3)) (byte frame 4) (byte frame 6)

unfoldable pub level_answer : List ℕ → Answer
level_answer frame = first (reserving (above frame))

-- the levels as they are read, both numbers or its refusal, and the word with them
abbrev pub levels_in : List ℕ → Result TwoLevels Refusal
levels_in frame = levels_at (address (byte frame 3)) (byte frame 4) (byte frame 5) (byte frame 6) (byte frame 7)

abbrev pub word_in : List ℕ → TwoLevels → Word
word_in frame two = word_with two (address (byte frame 3)) (byte frame 4) (byte frame 5) (byte frame 6) (byte frame 7)

-- the record after an accepted frame
abbrev pub after : List ℕ → Status → Status
after frame s = applied (byte frame 3) (word frame) s

-- the padding is the end of the frame
abbrev pub padding_start : ℕ → ℕ
padding_start n = 512 - padding n

abbrev pub padded : ℕ → List ℕ → Bool
padded n frame = all_zero (drop (padding_start n) frame)

-- T-02: "for PADDING the first non-zero one (as a byte of the frame, from 0)"
abbrev pub bad_padding : ℕ → List ℕ → Refusal
bad_padding n frame = Padding (padding_start n + first_other 0 (drop (padding_start n) frame))

-- the tests of a frame for n receivers, with slices of the lengths iq and mic; before them that of the count, and after them those of its
-- levels
abbrev pub frame_tests : List ℕ → ℕ → ℕ → ℕ → List Test
frame_tests frame n iq mic =
    not (eqb (length frame) 512) gives Length
    ∷ (ltb iq (values n) || ltb mic (slots n)) gives ShortBuffer
    ∷ not (sync_at frame 0) gives no_sync frame
    ∷ not (padded n frame) gives bad_padding n frame
    ∷ []

unfoldable pub frame_answer : List ℕ → ℕ → ℕ → ℕ → Answer
frame_answer frame n iq mic = first (frame_tests frame n iq mic)

abbrev pub tests : List ℕ → ℕ → ℕ → ℕ → List Test
tests frame n iq mic = not (counted n) gives BadCount ∷ frame_tests frame n iq mic ++ reserving (above frame)

-- what a read tells: the answer, the word that came, and the record after it
pub record Reading : Type 0 where
  pub answer : Answer
  pub word : Word
  pub status : Status

-- what a read leaves: what it tells, and the two slices at exit
pub record Outcome : Type 0 where
  pub reading : Reading
  pub iq : List ℤ
  pub mic : List ℤ

abbrev pub outcome : Reading → List ℤ → List ℤ → Outcome
outcome r iq mic = record { reading = r; iq = iq; mic = mic }

-- a refusal writes nothing, returns the record given and the word unlisted 0
abbrev pub refusal : Answer → Status → Reading
refusal a s = record { answer = a; word = Unlisted 0; status = s }

abbrev pub refused : Answer → List ℤ → List ℤ → Status → Outcome
refused a iq mic s = outcome (refusal a s) iq mic

-- what a call that was given a record s has left, by what it gave: a word and the record after it, or a refusal
abbrev pub gave : Status → Result Given Refusal → List ℤ → List ℤ → Outcome
gave s (Ok r) iq mic = outcome (record { answer = Accepted; word = r.word; status = r.status }) iq mic
gave s (Err e) iq mic = refused (Err e) iq mic s

-- the same of an update: the word that it gave or the refusal, with the lent record at exit
abbrev pub left : Result Word Refusal → Status → List ℤ → List ℤ → Outcome
left (Ok w) s iq mic = outcome (record { answer = Accepted; word = w; status = s }) iq mic
left (Err e) s iq mic = refused (Err e) iq mic s

-- an accepted frame: its word, the record after it, and every sample at the start of its slice
abbrev pub acceptance : ℕ → Word → Status → Reading
acceptance c0 w s = record { answer = Accepted; word = w; status = applied c0 w s }

abbrev pub taken : List ℕ → ℕ → List ℤ → List ℤ → Status → Outcome
taken frame n iq mic s =
    outcome (acceptance (byte frame 3) (word frame) s)
    (over (values n) (iq_at n (payload frame)) iq)
    (over (slots n) (mic_at n (payload frame)) mic)

unfoldable pub answer_of : List ℕ → ℕ → ℕ → ℕ → Answer
answer_of frame n iq mic = first (tests frame n iq mic)

unfoldable pub read_of : List ℕ → ℕ → List ℤ → List ℤ → Status → Outcome
read_of frame n iq mic s =
    let answer = answer_of frame n (length iq) (length mic) in
    cond (accepts answer) (taken frame n iq mic s) (refused answer iq mic s)
