-- Document 01, "Frame and slots", "Nine refusals" and "Words from the host": what reading a host frame answers and leaves. Assumes nothing.
use Rattle.std.specs.Prelude.{ℕ, cond, not, List, [], ◌∷◌, eqb, ltb, ℤ, length, Result, Ok, Err}
use Rattle.wire.specs.Answers.{Answer, Accepted, Test, ◌gives◌, first, accepts}
use Rattle.wire.specs.Control.{control_of}
use Rattle.wire.specs.Sync.{sync_at, no_sync}
use Rattle.wire.specs.declared.Refusal.{Refusal}
use Rattle.wire.specs.declared.Refusal.TheVariants.{Length, ShortBuffer}
use Rattle.host_samples.specs.Samples.{payload_of, numbers}
use Rattle.host_words.specs.Words.{address, unassigned, after}
use Rattle.host.specs.declared.Reading.{Reading}
use Rattle.host_record.specs.declared.record.Host.{Host}

-- in the order of the table; `room` is the length of the sample slice
abbrev pub refusals : List ℕ → ℕ → List Test
refusals f room =
    not (eqb (length f) 512) gives Length
    ∷ ltb room 252 gives ShortBuffer
    ∷ not (sync_at f 0) gives no_sync f
    ∷ unassigned (control_of f)

-- all that a caller has afterwards
pub record Outcome : Type 0 where
  pub answer : Answer
  pub address : ℕ
  pub host : Host
  pub audio : List ℤ

-- a refusal: the record given, address 0, nothing written
abbrev pub refused : Answer → List ℤ → Host → Outcome
refused answer audio h = record { answer = answer; address = 0; host = h; audio = audio }

-- what the call on a record gave, with the slice as it returned
abbrev pub gave : Host → Result Reading Refusal → List ℤ → Outcome
gave h (Ok r) audio = record { answer = Accepted; address = r.address; host = r.host; audio = audio }
gave h (Err refusal) audio = refused (Err refusal) audio h

abbrev pub accepted : List ℕ → List ℤ → Host → Outcome
accepted f audio h =
    record { answer = Accepted; address = address (control_of f); host = after (control_of f) h; audio = numbers (payload_of f) audio }

abbrev pub outcome : Answer → List ℕ → List ℤ → Host → Outcome
outcome answer f audio h = cond (accepts answer) (accepted f audio h) (refused answer audio h)

unfoldable pub read_of : List ℕ → List ℤ → Host → Outcome
read_of f audio h = outcome (first (refusals f (length audio))) f audio h

-- frames read one after another, each into the record that the one before it left
pub record Call : Type 0 where
  pub frame : List ℕ
  pub audio : List ℤ

abbrev pub reads : List Call → Host → Host
reads [] h = h
reads (x ∷ xs) h = reads xs (read_of x.frame x.audio h).host
