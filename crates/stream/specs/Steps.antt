-- What the private steps of a call leave and ask. Assumes nothing.
use Rattle.std.specs.Prelude.{ℕ, ◌+◌, ◌*◌, ◌^◌, ◌≤◌, ◌≡◌, List, ◌++◌, length, drop}
use Rattle.reading.specs.Reading.{reading}
use Rattle.stream.specs.declared.Stream.{Stream}
use Rattle.stream.specs.declared.scan.Scanned.{Scanned}

-- a scan of the bytes s: the frames at the start of the output, their number, the bytes skipped, and the place of what is left
pub record Scans (s output : List ℕ) (r : Scanned) (exit : List ℕ) : Type 0 where
  pub frames_is : r.frames ≡ (reading s).frames
  pub skipped_is : r.skipped ≡ (reading s).skipped
  pub in_list : r.place ≤ length s
  pub place_is : r.place ≡ 512 * r.frames + r.skipped
  pub left_is : drop r.place s ≡ (reading s).left
  pub output_is : exit ≡ (reading s).handed ++ drop (length (reading s).handed) output

-- the numbers of a call that no test refuses: the lengths of its piece and of its output
pub record Ready (s : Stream) (piece output : ℕ) : Type 0 where
  pub few : s.count ≤ 514
  pub tally : 512 * s.frames + s.skipped + s.count ≡ s.total
  pub fits : s.total + piece ≤ 2 ^ 48
  pub short : piece ≤ 4096
  pub room : 4096 ≤ output
