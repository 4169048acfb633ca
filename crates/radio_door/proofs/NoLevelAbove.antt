-- T-08, through the door: cells without a level above 4,095 keep having none, and those of a fresh record have none. Assumes nothing.
use mathlib.Core.Path.{subst⁻¹}
use mathlib.Core.List.{List}
use Prim.Native.Nat.{ℕ, ◌≤◌}
use native.Mathlib.Omega.{arith}
use borrow.Author.Tests.{le-ltb}
use lib.IntN.{ℤ}
use lib.ListN.{length}
use lib.Seq.{sets}
use Rattle.wire.specs.Answers.{accepts}
use Rattle.wire.specs.Numbers.{Bytes}
use Rattle.wire.proofs.Cases.{by_test}
use Rattle.radio_status.specs.Control.{Leveled}
use Rattle.radio_status.specs.Record.{fresh_status}
use Rattle.radio_status.specs.declared.record.Status.{Status}
use Rattle.radio.specs.Read as Read
use Rattle.radio.proofs.NoLevelAbove.{levels_stay, fresh_leveled}
use Rattle.cells.specs.Cells.{within, offered}
use Rattle.cells.proofs.Back.{over}
use Rattle.cells.proofs.Cases.{enough}
use Rattle.radio_door.specs.Status.{status_most, status_of, status_cells, LeveledCells}
use Rattle.radio_door.specs.Radio.{Outcome, radio_read_of}
use Rattle.radio_door.proofs.RadioCases.{read_good, read_bad}

-- the record that such cells are, and the cells of such a record
pub record_leveled : (cells : List ℕ) → LeveledCells cells → Leveled (status_of cells)
record_leveled cells l =
    record { ain5 = omega (arith, l.ain5); ain1 = omega (arith, l.ain1); ain2 = omega (arith, l.ain2); ain3 = omega (arith, l.ain3); ain4 = omega (arith, l.ain4); ain6 = omega (arith, l.ain6) }

pub cells_leveled : (s : Status) (cells : List ℕ) → Leveled s → 26 ≤ length cells → LeveledCells (sets cells 0 (status_cells s))
cells_leveled s cells l room =
    subst⁻¹ LeveledCells (over (status_cells s) cells room) (record { ain5 = l.ain5; ain1 = l.ain1; ain2 = l.ain2; ain3 = l.ain3; ain4 = l.ain4; ain6 = l.ain6 })

module _ (frame : List ℕ) (n : ℕ) (iq mic : List ℤ) (cells : List ℕ) (small : Bytes frame) (leveled : LeveledCells cells) where
  pub door_levels_stay : LeveledCells (radio_read_of frame n iq mic cells).status
  door_levels_stay =
      by_test (within status_most cells)
      (λ held.
      let read = (Read.read_of frame n iq mic (status_of cells)).reading in
      let stays = levels_stay frame n iq mic (status_of cells) small (record_leveled cells leveled) in
      subst⁻¹ (λ (o : Outcome). LeveledCells o.status) (read_good frame n iq mic cells held)
      (by_test (accepts read.answer)
      (λ is. rw is (cells_leveled read.status cells stays (enough status_most cells held)))
      (λ isn't. rw isn't leveled)))
      (λ bad. subst⁻¹ (λ (o : Outcome). LeveledCells o.status) (read_bad frame n iq mic cells bad) leveled)

pub fresh_cells_leveled : (cells : List ℕ) → 26 ≤ length cells → LeveledCells (offered (status_cells fresh_status) cells).lent
unfolding offered
fresh_cells_leveled cells room = rw (le-ltb (length cells) 26 room) (cells_leveled fresh_status cells fresh_leveled room)
