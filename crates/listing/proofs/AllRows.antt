-- What the program writes while it reads, and the rows that wait at the end, are together the listing of its input, whatever chunks the
-- input comes in and whatever the output buffer held. Assumes nothing.
use mathlib.Core.Path.{◌≡◌, ◌∙◌}
use mathlib.Core.List.{List, ◌++◌, flatten}
use Prim.Native.Nat.{ℕ, ◌^◌, ◌<◌, ◌≤◌}
use lib.ListN.{length}
use Rattle.hexline.specs.Lines.{lines}
use Rattle.text.specs.Put.{gave}
use Rattle.hexline.specs.Text.{found_in}
use Rattle.listed.specs.Rows.{listing_of}
use Rattle.listed.proofs.WholeText.{whole_text}
use Rattle.listing.specs.Buffer.{waiting_in, buffer_after, written_by}
use Rattle.listing.proofs.Gather.{rows_pass}

pub all_rows : (chunks : List (List ℕ)) (out : List ℕ) → 64 ≤ length out → length (lines (flatten chunks)) < 2 ^ 64
    → written_by (found_in chunks) (gave 0 out) ++ waiting_in (buffer_after (found_in chunks) (gave 0 out)) ≡ listing_of (flatten chunks)
all_rows chunks out room few = rows_pass (found_in chunks) (gave 0 out) room ∙ whole_text chunks few
