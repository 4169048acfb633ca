-- Calls one after another on the same cells, each a read of one frame or of a transfer. Assumes nothing.
use Rattle.std.specs.Prelude.{ℕ, Bool, cond, List, [], ◌∷◌, ℤ}
use Rattle.wire.specs.Numbers.{Bytes}
use Rattle.radio_door.specs.Radio.{Outcome, radio_read_of}
use Rattle.hpsdr_transfer.specs.Transfer.{read_transfer_of}

-- which of the two it is, and what it is lent beside the cells
pub record Call : Type 0 where
  pub single : Bool
  pub input : List ℕ
  pub receivers : ℕ
  pub iq : List ℤ
  pub mic : List ℤ

abbrev pub called : Call → List ℕ → Outcome
called c cells =
    cond c.single
    (radio_read_of c.input c.receivers c.iq c.mic cells)
    (read_transfer_of c.input c.receivers c.iq c.mic cells)

abbrev pub cells_after : List Call → List ℕ → List ℕ
cells_after [] cells = cells
cells_after (c ∷ cs) cells = cells_after cs (called c cells).status

-- the elements of each input are bytes, as its type says
abbrev pub OfBytes : List Call → Type 0
OfBytes [] = Unit {0}
OfBytes (c ∷ cs) = Bytes c.input × OfBytes cs
