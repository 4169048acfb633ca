-- T-10: what the plain reader makes of an input is what a fresh stream makes of its pieces. Assumes nothing.
use Rattle.std.specs.Prelude.{ℕ, ◌-◌, ◌*◌, ◌≡◌, List, length, take, drop}
use Rattle.plain.specs.Plain.{Outcome}
use Rattle.stream.specs.Record.{fresh_of, held_bytes}
use Rattle.stream.specs.Run.{Call, handed_out, last_of}

pub record Same (input : List ℕ) (plain : Outcome) (calls : List Call) : Type 0 where
  -- the frames, their bytes one after another, and their number
  pub frames_are : take (512 * plain.frames) plain.output ≡ handed_out fresh_of calls
  pub as_many : plain.frames ≡ (last_of fresh_of calls).frames
  pub skipped_is : plain.skipped ≡ (last_of fresh_of calls).skipped
  -- the stream's held bytes are the end of the input that the plain reader leaves
  pub left_are : drop (length input - plain.left) input ≡ held_bytes (last_of fresh_of calls)
  pub left_is : plain.left ≡ (last_of fresh_of calls).count
