-- T-05: the line about a run of bytes, and the line that says how long an input is. Assumes nothing.
use Rattle.std.specs.Prelude.{ℕ, ◌+◌, ◌-◌, ◌/◌, Bool, cond, ◌||◌, List, [], ◌++◌, leb, ltb, length, get_or}
use Rattle.text.specs.Numbers.{commas}
use Rattle.text.specs.Put.{Written, gave, written}
use Rattle.why.specs.declared.Reason.{Reason}
use Rattle.why.specs.declared.Reason.TheVariants.{NotGiven, Inside, Near, Far, Held}
use Rattle.why.specs.declared.runs.Run.{Run}
use Rattle.sentences.specs.Parts.{labelled_of, wrong_of, counted_of, subject_of}
use Rattle.sentences.specs.Sentence.{no_reason}
use Rattle.sentences.specs.Words.{was_handed_out, were_handed_out, was_skipped, were_skipped, sync_at_byte, is_held, are_held, one_frame, many_frames, one_byte, many_bytes, past_end}

-- "bytes 0 to 2,047 were handed out: 4 frames"
unfoldable pub run_handed : ℕ → ℕ → List ℕ
run_handed start end = subject_of start end was_handed_out were_handed_out ++ counted_of ((end - start) / 512) one_frame many_frames

-- "bytes 2,048 to 2,553 were skipped, the first because byte 0 of the sync at byte 2,048 is 33 and not 7F"
unfoldable pub run_skipped : ℕ → ℕ → ℕ → ℕ → ℕ → List ℕ
run_skipped start end byte sync value = subject_of start end was_skipped were_skipped ++ commas byte ++ labelled_of sync_at_byte sync ++ wrong_of value

-- "bytes 5,626 to 6,137 are still held"
unfoldable pub run_held : ℕ → ℕ → List ℕ
run_held start end = subject_of start end is_held are_held

-- a run from a place to before another, by the reason of its first place
abbrev pub run_text : List ℕ → ℕ → ℕ → Reason → List ℕ
run_text input start end NotGiven = []
run_text input start end (Inside q) = run_handed start end
run_text input start end (Near byte) = run_skipped start end byte start (get_or input (start + byte) 0)
run_text input start end (Far byte) = run_skipped start end byte (start + 512) (get_or input (start + (512 + byte)) 0)
run_text input start end Held = run_held start end

-- too long an input, a run that ends outside it, one without a byte, or a reason that its first place cannot have
abbrev pub no_run : List ℕ → ℕ → ℕ → Reason → Bool
no_run input start end reason = ltb 65536 (length input) || ltb (length input) end || leb end start || no_reason start reason

unfoldable pub run_line_of : List ℕ → ℕ → Run → List ℕ → Written
run_line_of input start run out =
    cond (ltb (length out) 128 || no_run input start run.end run.reason) (gave 0 out) (written (run_text input start run.end run.reason) out)

-- "why: the place is past the end of the input, which has 6,138 bytes"
unfoldable pub past_end_text : ℕ → List ℕ
past_end_text n = past_end ++ counted_of n one_byte many_bytes

unfoldable pub past_end_of : ℕ → List ℕ → Written
past_end_of n out = cond (ltb (length out) 128) (gave 0 out) (written (past_end_text n) out)
