-- How long the sentences and lines are. Assumes nothing.
use mathlib.Core.Path.{◌≡◌}
use mathlib.Core.Bool.{Bool, false, cond}
use mathlib.Core.List.{List}
use Prim.Native.Nat.{ℕ, ◌+◌, ◌-◌, ◌/◌, ◌^◌, ◌<◌, ◌≤◌}
use native.Mathlib.Omega.{arith}
use borrow.Author.Tests.{ltb-false}
use lib.Dec.{eqb}
use lib.ListN.{length, length-append}
use Rattle.wire.proofs.Cases.{either}
use Rattle.text.specs.Numbers.{commas}
use Rattle.text.proofs.Numbers.{commas-length, hex-length}
use Rattle.why.specs.declared.Reason.{Reason}
use Rattle.why.specs.declared.Reason.TheVariants.{NotGiven, Inside, Near, Far, Held}
use Rattle.sentences.specs.Parts.{counted_of, subject_of}
use Rattle.sentences.specs.Run.{run_handed, run_skipped, run_held, run_text, past_end_text}
use Rattle.sentences.specs.Sentence.{no_reason, inside_text, skipped_text, held_text, sentence_of}
use Rattle.sentences.specs.Words.{was_handed_out, were_handed_out, was_skipped, were_skipped, sync_there, sync_later, is_held, are_held, one_frame, many_frames, one_byte, many_bytes}

-- a number of an input's size
pub short : (n : ℕ) → n < 1000000 → length (commas n) ≤ 7
short n h = commas-length 1 n (omega arith)

pub cond-length : (b : Bool) (x y : List ℕ) (k : ℕ) → length x ≤ k → length y ≤ k → length (cond b x y) ≤ k
cond-length b x y k one other = either b (λ l. length l ≤ k) one other

-- ---- sentences

module _ (place : ℕ) (small : place ≤ 65536) where
  inside-length : (q : ℕ) → q ≤ place → length (inside_text place q) ≤ 96
  unfolding inside_text
  inside-length q before =
      simp length-append (omega (arith, short place (omega arith), short (place - q) (omega arith), short q (omega arith)))

  skipped-length : (byte : ℕ) (sync : List ℕ) (value : ℕ) → byte ≤ 2 → length sync ≤ 28 → length (skipped_text place byte sync value) ≤ 96
  unfolding skipped_text
  skipped-length byte sync value few room =
      simp (length-append, hex-length) (omega (arith, short place (omega arith), short byte (omega arith)))

  held_length : length (held_text place) ≤ 96
  unfolding held_text
  held_length = simp length-append (omega (arith, short place (omega arith)))

  pub sentence-length : (input : List ℕ) (reason : Reason) → no_reason place reason ≡ false → length (sentence_of input place reason) ≤ 96
  sentence-length input NotGiven can = omega arith
  sentence-length input (Inside q) can = inside-length q (ltb-false place q can)
  sentence-length input (Near byte) can = skipped-length byte sync_there _ (ltb-false 2 byte can) (omega arith)
  sentence-length input (Far byte) can = skipped-length byte sync_later _ (ltb-false 2 byte can) (omega arith)
  sentence-length input Held can = held_length

-- ---- runs, and the line about an input's length

counted-length : (n : ℕ) (one many : List ℕ) (k : ℕ) → length one ≤ k → length many ≤ k → length (counted_of n one many) ≤ length (commas n) + k
counted-length n one many k a b = simp length-append (omega (arith, cond-length (eqb n 1) one many k a b))

subject-length : (start end : ℕ) (one many : List ℕ) (k : ℕ) → start ≤ 65536 → end ≤ 65536 → length one ≤ k → length many ≤ k
    → length (subject_of start end one many) ≤ 24 + k
subject-length start end one many k s e a b =
    cond-length (eqb (end - start) 1) _ _ (24 + k)
    (simp length-append (omega (arith, short start (omega arith))))
    (simp length-append (omega (arith, short start (omega arith), short (end - 1) (omega arith))))

module _ (start end : ℕ) (first : start ≤ 65536) (last : end ≤ 65536) where
  handed_length : length (run_handed start end) ≤ 128
  unfolding run_handed
  handed_length =
      let frames = (end - start) / 512 in
      omega (
        arith,
        length-append (subject_of start end was_handed_out were_handed_out) (counted_of frames one_frame many_frames),
        subject-length start end was_handed_out were_handed_out 18 first last (omega arith) (omega arith),
        counted-length frames one_frame many_frames 8 (omega arith) (omega arith),
        short frames (omega arith),
      )

  run_skipped_length : (byte sync value : ℕ) → byte ≤ 2 → sync ≤ 66048 → length (run_skipped start end byte sync value) ≤ 128
  unfolding run_skipped
  run_skipped_length byte sync value few near =
      simp (length-append, hex-length)
      (omega (arith, subject-length start end was_skipped were_skipped 38 first last (omega arith) (omega arith), short byte (omega arith), short sync (omega arith)))

  run_held_length : length (run_held start end) ≤ 128
  unfolding run_held
  run_held_length = omega (arith, subject-length start end is_held are_held 17 first last (omega arith) (omega arith))

  pub run_length : (input : List ℕ) (reason : Reason) → no_reason start reason ≡ false → length (run_text input start end reason) ≤ 128
  run_length input NotGiven can = omega arith
  run_length input (Inside q) can = handed_length
  run_length input (Near byte) can = run_skipped_length byte start _ (ltb-false 2 byte can) (omega arith)
  run_length input (Far byte) can = run_skipped_length byte (start + 512) _ (ltb-false 2 byte can) (omega arith)
  run_length input Held can = run_held_length

pub past_end_length : (n : ℕ) → n < 2 ^ 64 → length (past_end_text n) ≤ 128
unfolding past_end_text
past_end_length n h = omega (arith, counted-length n one_byte many_bytes 7 (omega arith) (omega arith), commas-length 6 n (omega arith))
