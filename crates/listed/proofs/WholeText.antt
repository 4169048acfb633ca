-- The rows of all that is found in a text, whatever chunks it comes in, are the listing of the text. Assumes nothing.
use mathlib.Core.Path.{◌≡◌, ap}
use mathlib.Core.List.{List, flatten}
use Prim.Native.Nat.{ℕ, ◌^◌, ◌<◌}
use lib.ListN.{length}
use Rattle.hexline.specs.Lines.{lines}
use Rattle.hexline.specs.Text.{found_in}
use Rattle.hexline.proofs.EveryLine.{every_number}
use Rattle.listed.specs.Rows.{rows_of, listing_of}

pub whole_text : (chunks : List (List ℕ)) → length (lines (flatten chunks)) < 2 ^ 64 → rows_of (found_in chunks) ≡ listing_of (flatten chunks)
whole_text chunks few = ap rows_of (every_number chunks few)
