-- Writing a radio frame: every byte of it, the refusals in the order of document 01's table, and the whole outcome. Assumes nothing.
use Rattle.std.specs.Prelude.{ℕ, Bool, cond, not, ◌&&◌, ◌||◌, List, [], ◌∷◌, ◌++◌, eqb, leb, ltb, ℤ, length, take, replicate}
use Rattle.wire.specs.Answers.{Answer, Test, ◌gives◌, first, accepts}
use Rattle.wire.specs.Every.{all_fit}
use Rattle.wire.specs.Lists.{tabs}
use Rattle.wire.specs.declared.Refusal.TheVariants.{BadCount, Length, ShortBuffer, Range}
use Rattle.layout.specs.Slots.{counted, slots, padding, values}
use Rattle.radio_status.specs.Control.{header, status_fits}
use Rattle.radio_status.specs.declared.record.Status.{Status}
use Rattle.radio_samples.specs.Fill.{slot_bytes}

-- "A frame is 512 bytes: 7F 7F 7F, then C0 to C4, then 504 bytes of payload": every slot, and zeros to its end
unfoldable pub frame_of : Status → ℕ → ℕ → List ℤ → List ℤ → List ℕ
frame_of s w n iq mic = header s w ++ tabs (slots n) (slot_bytes n iq mic) ++ replicate (padding n) 0

-- a needed sample, a version, a level or a word number that does not fit
unfoldable pub in_range : Status → ℕ → ℕ → List ℤ → Bool
in_range s w n iq = all_fit (take (values n) iq) && status_fits s && leb w 4

-- the tests once the count has its row, by the lengths of mic and of the frame that is lent; and all of them
abbrev pub later_tests : Status → ℕ → ℕ → List ℤ → ℕ → ℕ → List Test
later_tests s w n iq mic frame =
    not (eqb frame 512) gives Length
    ∷ (ltb (length iq) (values n) || ltb mic (slots n)) gives ShortBuffer
    ∷ not (in_range s w n iq) gives Range
    ∷ []

unfoldable pub later_answer : Status → ℕ → ℕ → List ℤ → ℕ → ℕ → Answer
later_answer s w n iq mic frame = first (later_tests s w n iq mic frame)

abbrev pub tests : Status → ℕ → ℕ → List ℤ → ℕ → ℕ → List Test
tests s w n iq mic frame = not (counted n) gives BadCount ∷ later_tests s w n iq mic frame

pub record Outcome : Type 0 where
  pub answer : Answer
  pub frame : List ℕ

abbrev pub gave : Answer → List ℕ → Outcome
gave a frame = record { answer = a; frame = frame }

unfoldable pub answer_of : Status → ℕ → ℕ → List ℤ → ℕ → ℕ → Answer
answer_of s w n iq mic frame = first (tests s w n iq mic frame)

-- a refusal leaves the frame as it was
unfoldable pub write_of : Status → ℕ → ℕ → List ℤ → List ℤ → List ℕ → Outcome
write_of s w n iq mic frame =
    let answer = answer_of s w n iq (length mic) (length frame) in
    gave answer (cond (accepts answer) (frame_of s w n iq mic) frame)
