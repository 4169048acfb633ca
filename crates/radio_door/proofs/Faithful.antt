-- Nothing of a status record is lost in the door: the record that is left in the cells is the one that they are made of. A record's
-- numbers are below the widths of their fields, which a machine's record has by its types. Assumes nothing.
use mathlib.Core.Path.{◌≡◌, ap, ◌∙◌}
use mathlib.Core.List.{List}
use Prim.Native.Nat.{ℕ, ◌^◌, ◌<◌, ◌≤◌}
use native.Mathlib.Nat.{mod-eq_of_lt}
use lib.ListN.{length}
use lib.Seq.{sets}
use Rattle.radio_status.specs.declared.record.Status.{Status}
use Rattle.cells.proofs.Back.{flag_back, over}
use Rattle.radio_door.specs.Status.{status_of, status_cells}

pub record StatusFits (s : Status) : Type 0 where
  pub mercury : s.inputs.mercury < 2 ^ 8
  pub penelope : s.inputs.penelope < 2 ^ 8
  pub main : s.inputs.main < 2 ^ 8
  pub ain5 : s.forward.ain5 < 2 ^ 16
  pub ain1 : s.forward.ain1 < 2 ^ 16
  pub ain2 : s.reverse.ain2 < 2 ^ 16
  pub ain3 : s.reverse.ain3 < 2 ^ 16
  pub ain4 : s.supply.ain4 < 2 ^ 16
  pub ain6 : s.supply.ain6 < 2 ^ 16
  pub board1 : s.versions.board1 < 2 ^ 8
  pub board2 : s.versions.board2 < 2 ^ 8
  pub board3 : s.versions.board3 < 2 ^ 8
  pub board4 : s.versions.board4 < 2 ^ 8

pub status_back : (s : Status) (cells : List ℕ) → StatusFits s → 26 ≤ length cells → status_of (sets cells 0 (status_cells s)) ≡ s
status_back s cells fits room = ap status_of (over (status_cells s) cells room) ∙ (λ i.
    record {
      dot = flag_back s.dot i;
      dash = flag_back s.dash i;
      ptt = flag_back s.ptt i;
      overflow = record { adc1 = flag_back s.overflow.adc1 i; adc2 = flag_back s.overflow.adc2 i; adc3 = flag_back s.overflow.adc3 i; adc4 = flag_back s.overflow.adc4 i };
      inputs = record {
        io1 = flag_back s.inputs.io1 i;
        io2 = flag_back s.inputs.io2 i;
        io3 = flag_back s.inputs.io3 i;
        io4 = flag_back s.inputs.io4 i;
        pll = flag_back s.inputs.pll i;
        toggle = flag_back s.inputs.toggle i;
        mercury = mod-eq_of_lt fits.mercury i;
        penelope = mod-eq_of_lt fits.penelope i;
        main = mod-eq_of_lt fits.main i;
      };
      forward = record { ain5 = mod-eq_of_lt fits.ain5 i; ain1 = mod-eq_of_lt fits.ain1 i };
      reverse = record { ain2 = mod-eq_of_lt fits.ain2 i; ain3 = mod-eq_of_lt fits.ain3 i };
      supply = record { ain4 = mod-eq_of_lt fits.ain4 i; ain6 = mod-eq_of_lt fits.ain6 i };
      versions = record { board1 = mod-eq_of_lt fits.board1 i; board2 = mod-eq_of_lt fits.board2 i; board3 = mod-eq_of_lt fits.board3 i; board4 = mod-eq_of_lt fits.board4 i };
    })
