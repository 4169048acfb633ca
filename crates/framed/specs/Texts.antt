-- The text that is printed for the frames of a call, and for calls one after another. Assumes nothing.
use Rattle.std.specs.Prelude.{ℕ, ◌*◌, Bool, cond, ◌||◌, List, [], ◌∷◌, ◌++◌, ltb, length}
use Rattle.text.specs.Put.{Written, gave, written}
use Rattle.stream.specs.Run.{Call, called}
use Rattle.stream.specs.declared.Stream.{Stream}
use Rattle.framed.specs.Hexadecimal.{lines_of}

-- more frames than one call hands out, or than there are; or lines that the slice has no room for, 1,025 bytes each
abbrev pub refused_lines : List ℕ → ℕ → List ℕ → Bool
refused_lines frames count out = ltb 8 count || ltb (length frames) (count * 512) || ltb (length out) (count * 1025)

unfoldable pub lines_written : List ℕ → ℕ → List ℕ → Written
lines_written frames count out = cond (refused_lines frames count out) (gave 0 out) (written (lines_of count frames) out)

-- what is printed for calls, each on the record that the one before it gave: the lines of the frames at the start of each output
abbrev pub printed_by : Stream → List Call → List ℕ
printed_by given [] = []
printed_by given (call ∷ calls) = lines_of (called given call).frames (called given call).output ++ printed_by (called given call).next calls
