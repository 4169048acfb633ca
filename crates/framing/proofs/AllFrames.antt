-- What the program writes is the text of one reading of its whole input, and the closing line has the counts of that reading, whatever
-- sizes the reads have and whatever the buffers held. Assumes nothing.
use mathlib.Core.Path.{◌≡◌, refl, ap, ap₂, ◌∙◌}
use mathlib.Core.List.{List, [], ◌∷◌, ◌++◌}
use Prim.Native.Nat.{ℕ, ◌^◌, ◌≤◌}
use native.Mathlib.Nat.{zero-add}
use lib.ListN.{length, take, drop}
use lib.Seq.{take-append_seam}
use Rattle.stream.specs.Feed.{after}
use Rattle.reading.specs.Reading.{reading}
use Rattle.stream.specs.Record.{fresh_of}
use Rattle.stream.specs.Run.{called, AllAccepted, AllFit, pieces, last_of}
use Rattle.stream.specs.declared.Stream.{Stream}
use Rattle.stream.proofs.Cut.{however_cut}
use Rattle.stream.proofs.Runs.{all_accepted}
use Rattle.stream.proofs.Sound.{fresh_kept}
use Rattle.text.specs.Put.{Written, gave, written}
use Rattle.framed.specs.Hexadecimal.{lines_of}
use Rattle.framed.specs.Texts.{printed_by}
use Rattle.framed.proofs.WholeInput.{whole_input}
use Rattle.framing.specs.Reads.{Read, AllPass, calls_of, written_by, record_after}

-- a text at the start of a slice, taken from there
taken_back : (text out : List ℕ) (w : Written) → w ≡ written text out → take w.count w.out ≡ text
taken_back text out w e = ap (λ (w : Written). take w.count w.out) e ∙ take-append_seam text (drop (length text) out)

text_written : (reads : List Read) (given : Stream) → AllPass given reads → written_by reads ≡ printed_by given (calls_of reads)
text_written [] given pass = refl
text_written (r ∷ reads) given pass =
    ap₂ ◌++◌
    (taken_back (lines_of (called given r.call).frames (called given r.call).output) r.text (gave r.next.waiting r.after) pass.0.text_is)
    (text_written reads r.next.stream pass.1 ∙ ap (λ s. printed_by s (calls_of reads)) pass.0.stream_is)

record_left : (reads : List Read) (given : Stream) → AllPass given reads → record_after given reads ≡ last_of given (calls_of reads)
record_left [] given pass = refl
record_left (r ∷ reads) given pass = record_left reads r.next.stream pass.1 ∙ ap (λ s. last_of s (calls_of reads)) pass.0.stream_is

module _ (reads : List Read) (pass : AllPass fresh_of reads) (fit : AllFit (calls_of reads)) (few : length (pieces (calls_of reads)) ≤ 2 ^ 48) where
  accepted : AllAccepted fresh_of (calls_of reads)
  accepted = all_accepted (calls_of reads) fresh_of fresh_kept fit (rw (zero-add (length (pieces (calls_of reads)))) few)

  pub all_frames : written_by reads ≡ lines_of (reading (pieces (calls_of reads))).frames (reading (pieces (calls_of reads))).handed
  all_frames = text_written reads fresh_of pass ∙ whole_input (calls_of reads) accepted

  -- frames, bytes skipped and bytes held
  pub closing_counts : record_after fresh_of reads ≡ after fresh_of (length (pieces (calls_of reads))) (reading (pieces (calls_of reads)))
  closing_counts = record_left reads fresh_of pass ∙ (however_cut (calls_of reads) accepted).1
