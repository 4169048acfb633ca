-- An update as C and Rust see it: what it leaves, with the answer as one number. Assumes nothing.
use Rattle.std.specs.Prelude.{ℕ, List, ℤ}
use Rattle.wire.specs.Answers.{told}
use Rattle.radio_status.specs.declared.record.Status.{Status}
use Rattle.radio.specs.Read.{Outcome}

-- the number, and the lent record and slices at exit
pub record Shown : Type 0 where
  pub number : ℕ
  pub status : Status
  pub iq : List ℤ
  pub mic : List ℤ

abbrev pub shown : ℕ → Status → List ℤ → List ℤ → Shown
shown k s iq mic = record { number = k; status = s; iq = iq; mic = mic }

abbrev pub numbered : Outcome → Shown
numbered o = shown (told o.reading.answer) o.reading.status o.iq o.mic
