-- Reads one after another, each on the record that the one before it left. Assumes nothing.
use Rattle.std.specs.Prelude.{ℕ, List, [], ◌∷◌, ℤ}
use Rattle.wire.specs.Numbers.{Bytes}
use Rattle.radio_status.specs.declared.record.Status.{Status}
use Rattle.radio.specs.Read.{read_of}

-- what a read is lent beside the record
pub record Call : Type 0 where
  pub frame : List ℕ
  pub receivers : ℕ
  pub iq : List ℤ
  pub mic : List ℤ

abbrev pub status_after : List Call → Status → Status
status_after [] s = s
status_after (c ∷ cs) s = status_after cs (read_of c.frame c.receivers c.iq c.mic s).reading.status

-- the elements of each frame are bytes, as its type says
abbrev pub OfBytes : List Call → Type 0
OfBytes [] = Unit {0}
OfBytes (c ∷ cs) = Bytes c.frame × OfBytes cs
