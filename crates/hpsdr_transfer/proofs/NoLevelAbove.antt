-- T-08, through the door: cells without a level above 4,095 keep having none, however a transfer ends; and however reads and transfers
-- follow on each other, from a fresh record or from any without such a level. Assumes nothing.
use mathlib.Core.Path.{subst⁻¹}
use mathlib.Core.List.{List, [], ◌∷◌}
use Prim.Native.Nat.{ℕ, ◌≤◌}
use lib.Dec.{eqb}
use lib.IntN.{ℤ}
use lib.ListN.{length}
use Rattle.wire.specs.Numbers.{Bytes}
use Rattle.wire.proofs.Cases.{by_test}
use Rattle.transfer.specs.Transfer as Transfer
use Rattle.transfer.proofs.NoLevelAbove.{transfer_levels_stay}
use Rattle.cells.specs.Cells.{within, offered}
use Rattle.cells.proofs.Cases.{enough}
use Rattle.radio_door.specs.Radio.{Outcome}
use Rattle.radio_door.specs.Status.{status_most, status_of, status_cells, LeveledCells}
use Rattle.radio_door.proofs.NoLevelAbove.{record_leveled, cells_leveled, door_levels_stay, fresh_cells_leveled}
use Rattle.radio_status.specs.Record.{fresh_status}
use Rattle.hpsdr_transfer.specs.InTurn.{Call, called, cells_after, OfBytes}
use Rattle.hpsdr_transfer.specs.Transfer.{read_transfer_of}
use Rattle.hpsdr_transfer.proofs.TransferCases.{transfer_good, transfer_bad}

module _ (input : List ℕ) (n : ℕ) (iq mic : List ℤ) (cells : List ℕ) (small : Bytes input) (leveled : LeveledCells cells) where
  pub door_transfer_levels_stay : LeveledCells (read_transfer_of input n iq mic cells).status
  door_transfer_levels_stay =
      by_test (within status_most cells)
      (λ held.
      let done = Transfer.transfer_of input n iq mic (status_of cells) in
      let stays = transfer_levels_stay input n iq mic (status_of cells) small (record_leveled cells leveled) in
      subst⁻¹ (λ (o : Outcome). LeveledCells o.status) (transfer_good input n iq mic cells held)
      (by_test (eqb done.frames 0)
      (λ none. rw none leveled)
      (λ some. rw some (cells_leveled done.status cells stays (enough status_most cells held)))))
      (λ bad. subst⁻¹ (λ (o : Outcome). LeveledCells o.status) (transfer_bad input n iq mic cells bad) leveled)

called_levels_stay : (c : Call) (cells : List ℕ) → Bytes c.input → LeveledCells cells → LeveledCells (called c cells).status
called_levels_stay c cells small leveled =
    by_test c.single
    (λ one. rw one (door_levels_stay c.input c.receivers c.iq c.mic cells small leveled))
    (λ several. rw several (door_transfer_levels_stay c.input c.receivers c.iq c.mic cells small leveled))

pub calls_levels_stay : (calls : List Call) (cells : List ℕ) → OfBytes calls → LeveledCells cells → LeveledCells (cells_after calls cells)
calls_levels_stay [] cells small leveled = leveled
calls_levels_stay (c ∷ cs) cells small leveled = calls_levels_stay cs _ small.1 (called_levels_stay c cells small.0 leveled)

pub no_level_above_4095 : (calls : List Call) (cells : List ℕ) → OfBytes calls → 26 ≤ length cells → LeveledCells (cells_after calls (offered (status_cells fresh_status) cells).lent)
no_level_above_4095 calls cells small room = calls_levels_stay calls _ small (fresh_cells_leveled cells room)
