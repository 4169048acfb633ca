-- What the private steps of a transfer ask, and what they give. Assumes nothing.
use Rattle.std.specs.Prelude.{ℕ, ◌+◌, ◌*◌, ◌≤◌, true, ◌≡◌, List, ℤ, Result, Ok, Err}
use Rattle.wire.specs.Answers.{Answer, Accepted}
use Rattle.wire.specs.declared.Refusal.{Refusal}
use Rattle.layout.specs.Slots.{counted, slots, values}
use Rattle.layout.specs.Table.{row_of}
use Rattle.layout.specs.declared.row.Row.{Row}
use Rattle.radio_status.specs.declared.record.Status.{Status}
use Rattle.transfer.specs.Transfer.{Outcome}

-- frames of n receivers that no test before them refuses: the lengths of their input and of the slices
pub record Ready (frames n input iq mic : ℕ) : Type 0 where
  pub is_counted : counted n ≡ true
  pub few : frames ≤ 8
  pub long : input ≡ frames * 512
  pub iq_room : frames * values n ≤ iq
  pub mic_room : frames * slots n ≤ mic

-- the row of n receivers, where no test before them refuses
abbrev pub row_after : Answer → ℕ → Result Row Refusal
row_after (Ok _) n = Ok (row_of n)
row_after (Err refusal) n = Err refusal

-- k frames are read, and the record after them is s
abbrev pub reached : ℕ → Status → List ℤ → List ℤ → Outcome
reached k s iq mic = record { answer = Accepted; frames = k; status = s; iq = iq; mic = mic }

-- and one more is, or it is refused
abbrev pub next : ℕ → Status → Result Status Refusal → List ℤ → List ℤ → Outcome
next k s (Ok after) iq mic = reached (k + 1) after iq mic
next k s (Err refusal) iq mic = record { answer = Err refusal; frames = k; status = s; iq = iq; mic = mic }
