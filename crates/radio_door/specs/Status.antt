-- The status record as 26 cells, in the order of its fields. Assumes nothing.
use Rattle.std.specs.Prelude.{ℕ, ◌≤◌, cond, List, [], ◌∷◌, leb, length, get_or, Result, Ok, Err}
use Rattle.wire.specs.declared.Refusal.{Refusal}
use Rattle.wire.specs.declared.Refusal.TheVariants.{BadState}
use Rattle.cells.specs.Cells.{within, flag, number, cell_of}
use Rattle.radio_status.specs.Record.{fresh_status}
use Rattle.radio_status.specs.declared.record.Status.{Status}

abbrev pub status_most : List ℕ
status_most =
    1 ∷ 1 ∷ 1 ∷ 1 ∷ 1 ∷ 1 ∷ 1 ∷ 1 ∷ 1 ∷ 1 ∷ 1 ∷ 1 ∷ 1
    ∷ 255 ∷ 255 ∷ 255 ∷ 65535 ∷ 65535 ∷ 65535 ∷ 65535 ∷ 65535 ∷ 65535 ∷ 255 ∷ 255 ∷ 255 ∷ 255 ∷ []

abbrev pub status_of : List ℕ → Status
status_of cs =
    record {
      dot = flag cs 0;
      dash = flag cs 1;
      ptt = flag cs 2;
      overflow = record { adc1 = flag cs 3; adc2 = flag cs 4; adc3 = flag cs 5; adc4 = flag cs 6 };
      inputs = record {
        io1 = flag cs 7;
        io2 = flag cs 8;
        io3 = flag cs 9;
        io4 = flag cs 10;
        pll = flag cs 11;
        toggle = flag cs 12;
        mercury = number 8 cs 13;
        penelope = number 8 cs 14;
        main = number 8 cs 15;
      };
      forward = record { ain5 = number 16 cs 16; ain1 = number 16 cs 17 };
      reverse = record { ain2 = number 16 cs 18; ain3 = number 16 cs 19 };
      supply = record { ain4 = number 16 cs 20; ain6 = number 16 cs 21 };
      versions = record { board1 = number 8 cs 22; board2 = number 8 cs 23; board3 = number 8 cs 24; board4 = number 8 cs 25 };
    }

abbrev pub status_cells : Status → List ℕ
status_cells s =
    cell_of s.dot ∷ cell_of s.dash ∷ cell_of s.ptt
    ∷ cell_of s.overflow.adc1 ∷ cell_of s.overflow.adc2 ∷ cell_of s.overflow.adc3 ∷ cell_of s.overflow.adc4
    ∷ cell_of s.inputs.io1 ∷ cell_of s.inputs.io2 ∷ cell_of s.inputs.io3 ∷ cell_of s.inputs.io4
    ∷ cell_of s.inputs.pll ∷ cell_of s.inputs.toggle
    ∷ s.inputs.mercury ∷ s.inputs.penelope ∷ s.inputs.main
    ∷ s.forward.ain5 ∷ s.forward.ain1 ∷ s.reverse.ain2 ∷ s.reverse.ain3 ∷ s.supply.ain4 ∷ s.supply.ain6
    ∷ s.versions.board1 ∷ s.versions.board2 ∷ s.versions.board3 ∷ s.versions.board4 ∷ []

-- the record that the first cells are; too few of them give a fresh one
unfoldable pub status_in : List ℕ → Status
status_in cs = cond (leb 26 (length cs)) (status_of cs) fresh_status

-- the record that the cells are, where they can be one's
unfoldable pub status_from : List ℕ → Result Status Refusal
status_from cs = cond (within status_most cs) (Ok (status_of cs)) (Err BadState)

-- T-08, as a caller sees it: none of the six levels among the cells is above 4,095
pub record LeveledCells (cs : List ℕ) : Type 0 where
  pub ain5 : get_or cs 16 0 ≤ 4095
  pub ain1 : get_or cs 17 0 ≤ 4095
  pub ain2 : get_or cs 18 0 ≤ 4095
  pub ain3 : get_or cs 19 0 ≤ 4095
  pub ain4 : get_or cs 20 0 ≤ 4095
  pub ain6 : get_or cs 21 0 ≤ 4095
