-- Change request T-01: 1 to 8 radio frames of one receiver count, one after another in one input, each by its single read. Assumes nothing.
use Rattle.std.specs.Prelude.{ℕ, ◌+◌, ◌*◌, ◌/◌, ◌%◌, Bool, cond, not, ◌&&◌, ◌||◌, List, [], ◌∷◌, ◌++◌, eqb, leb, ltb, ℤ, length, take, drop}
use Rattle.wire.specs.Answers.{Answer, Accepted, Test, ◌gives◌, first, accepts}
use Rattle.wire.specs.Lists.{tab}
use Rattle.wire.specs.declared.Refusal.TheVariants.{BadCount, Length, ShortBuffer}
use Rattle.layout.specs.Slots.{counted, slots, values}
use Rattle.radio_status.specs.declared.record.Status.{Status}
use Rattle.radio.specs.Read as Read
use Rattle.transfer.specs.declared.Transfer.{Transfer}

-- how many frames so many bytes are; frame k of an input, from 0; and all of them
abbrev pub count : ℕ → ℕ
count bytes = bytes / 512

abbrev pub frame_at : List ℕ → ℕ → List ℕ
frame_at input k = take 512 (drop (k * 512) input)

abbrev pub frames_in : List ℕ → List (List ℕ)
frames_in input = tab (count (length input)) (frame_at input)

-- "1 to 8 times 512 bytes"
abbrev pub whole : ℕ → Bool
whole bytes = eqb (bytes % 512) 0 && leb 1 (count bytes) && leb (count bytes) 8

-- the tests before any frame is read, by the lengths of the input and of the slices
abbrev pub tests : ℕ → ℕ → ℕ → ℕ → List Test
tests bytes n iq mic =
    not (counted n) gives BadCount
    ∷ not (whole bytes) gives Length
    ∷ (ltb iq (count bytes * values n) || ltb mic (count bytes * slots n)) gives ShortBuffer
    ∷ []

unfoldable pub answer_of : ℕ → ℕ → ℕ → ℕ → Answer
answer_of bytes n iq mic = first (tests bytes n iq mic)

-- what a transfer leaves: its answer, how many frames were read, the record after them, and the two slices at exit
pub record Outcome : Type 0 where
  pub answer : Answer
  pub frames : ℕ
  pub status : Status
  pub iq : List ℤ
  pub mic : List ℤ

abbrev pub gave : Transfer → List ℤ → List ℤ → Outcome
gave r iq mic = record { answer = r.answer; frames = r.frames; status = r.status; iq = iq; mic = mic }

-- no frame read: the record given, and nothing written
abbrev pub none_read : Answer → List ℤ → List ℤ → Status → Outcome
none_read answer iq mic s = record { answer = answer; frames = 0; status = s; iq = iq; mic = mic }

-- the single read of the next frame, on the record that those before it left and on the rest of the slices
unfoldable pub single : ℕ → Outcome → List ℕ → Read.Outcome
single n o frame = Read.read_of frame n (drop (o.frames * values n) o.iq) (drop (o.frames * slots n) o.mic) o.status

-- what that read leaves, behind what the frames before it left; a refused frame does not count as read
abbrev pub behind : ℕ → Outcome → Read.Outcome → Outcome
behind n o one =
    record {
      answer = one.reading.answer;
      frames = cond (accepts one.reading.answer) (o.frames + 1) o.frames;
      status = one.reading.status;
      iq = take (o.frames * values n) o.iq ++ one.iq;
      mic = take (o.frames * slots n) o.mic ++ one.mic;
    }

unfoldable pub one_more : ℕ → Outcome → List ℕ → Outcome
one_more n o frame = behind n o (single n o frame)

-- the frames in order, up to the first that is refused
unfoldable pub one_by_one : ℕ → List (List ℕ) → Outcome → Outcome
one_by_one n [] o = o
one_by_one n (frame ∷ frames) o =
    let next = one_more n o frame in
    cond (accepts next.answer) (one_by_one n frames next) next

unfoldable pub transfer_of : List ℕ → ℕ → List ℤ → List ℤ → Status → Outcome
transfer_of input n iq mic s =
    let answer = answer_of (length input) n (length iq) (length mic) in
    cond (accepts answer) (one_by_one n (frames_in input) (none_read Accepted iq mic s)) (none_read answer iq mic s)
