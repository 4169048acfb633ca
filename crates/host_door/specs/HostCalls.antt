-- Reading and building a host frame through the door: document 01's outcome, with the record as cells and the answer as its number.
-- Assumes nothing.
use Rattle.std.specs.Prelude.{ℕ, cond, List, ℤ, set}
use Rattle.wire.specs.Answers.{Answer, number_of, told, accepts}
use Rattle.host.specs.Build as Build
use Rattle.host.specs.Read as Read
use Rattle.cells.specs.Cells.{within, got, bad_state, kept}
use Rattle.host_cells.specs.Host.{host_count, host_cells}
use Rattle.host_from_cells.specs.FromCells.{builder_most, host_most, host_of, builder_of}

-- what a read leaves: the number returned, and every lent slice at exit
pub record Outcome : Type 0 where
  pub number : ℕ
  pub host : List ℕ
  pub audio : List ℤ

abbrev pub gave : ℕ → List ℕ → List ℤ → Outcome
gave k host audio = record { number = k; host = host; audio = audio }

-- document 01's read, of the record that the cells are
abbrev pub shown : List ℕ → Read.Outcome → Outcome
shown cells o = gave (got (told o.answer) o.address) (kept o.answer (host_cells o.host) cells) o.audio

unfoldable pub host_read_of : List ℕ → List ℤ → List ℕ → Outcome
host_read_of frame audio cells =
    cond (within host_most cells) (shown cells (Read.read_of frame audio (host_of cells))) (gave bad_state cells audio)

-- what a build leaves
pub record Done : Type 0 where
  pub number : ℕ
  pub builder : List ℕ
  pub frame : List ℕ

abbrev pub built : ℕ → List ℕ → List ℕ → Done
built k builder frame = record { number = k; builder = builder; frame = frame }

-- a build changes the turn alone, and a refused one nothing
abbrev pub turned : Answer → ℕ → List ℕ → List ℕ
turned answer turn cells = cond (accepts answer) (set cells host_count turn) cells

abbrev pub numbered : List ℕ → Build.Outcome → Done
numbered cells o = built (number_of o.answer) (turned o.answer o.builder.turn cells) o.frame

unfoldable pub host_build_of : List ℕ → List ℤ → List ℕ → Done
host_build_of cells audio frame =
    cond (within builder_most cells) (numbered cells (Build.build_of (builder_of cells) audio frame)) (built bad_state cells frame)
