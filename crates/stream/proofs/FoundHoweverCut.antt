-- T-13: what FoundAgain says of a reading, of what a fresh stream hands out, however its input is cut. Assumes nothing.
use mathlib.Core.Path.{◌≡◌, sym, ap, ◌∙◌, subst}
use mathlib.Core.Bool.{true}
use mathlib.Core.List.{List}
use Prim.Native.Nat.{ℕ}
use Rattle.reading.specs.Reading.{good, reading}
use Rattle.stream.proofs.Cut.{however_cut}
use Rattle.stream.proofs.FoundAgain.{found_again, lost_to_one_before}
use Rattle.stream.specs.Clear.{Clear, Found, FoundOrOverlapped}
use Rattle.stream.specs.Record.{fresh_of}
use Rattle.stream.specs.Run.{Call, AllAccepted, pieces, handed_out}

-- `found_again` and `lost_to_one_before` hold of what a fresh stream hands out, for every list of pieces that the input is cut into and that are accepted, with any lent outputs.
module _ (s : List ℕ) (calls : List Call) (cut : pieces calls ≡ s) (accepted : AllAccepted fresh_of calls) where
  read_in_pieces : (reading s).handed ≡ handed_out fresh_of calls
  read_in_pieces = sym ((however_cut calls accepted).0 ∙ ap (λ l. (reading l).handed) cut)

  pub found_however_cut : (p b : ℕ) → Clear 511 s p b → Found s p b (handed_out fresh_of calls)
  found_however_cut p b clear = subst (Found s p b) read_in_pieces (found_again s p b clear)

  pub lost_however_cut : (p : ℕ) → good s p ≡ true → FoundOrOverlapped s p (handed_out fresh_of calls)
  lost_however_cut p here = subst (FoundOrOverlapped s p) read_in_pieces (lost_to_one_before s p here)
