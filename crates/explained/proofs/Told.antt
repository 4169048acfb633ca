-- T-05: of an input of up to 65,536 bytes something is said for each of its places: what is true of one is never refused. Assumes nothing.
use mathlib.Core.Path.{◌≡◌}
use mathlib.Core.Bool.{false}
use mathlib.Core.List.{List}
use Prim.Native.Nat.{ℕ, ◌≤◌}
use borrow.Author.Tests.{le-ltb, lt-leb}
use lib.ListN.{length}
use Rattle.why.specs.Reasons.{IsTrueReason}
use Rattle.why.specs.declared.Reason.{Reason}
use Rattle.sentences.proofs.Told.{tested_inside}
use Rattle.explained.specs.Shown.{no_place}

pub place_told_lem : (s : List ℕ) (p : ℕ) (reason : Reason) → length s ≤ 65536 → IsTrueReason s p reason → no_place s p reason ≡ false
place_told_lem s p reason fits t =
    let known = tested_inside s p reason t in
    rw (le-ltb 65536 (length s) fits, lt-leb (length s) p known.1) known.2
