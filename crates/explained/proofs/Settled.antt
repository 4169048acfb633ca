-- Any two outcomes that the call's contract admits coincide: the number of bytes, and the lent slice at exit. Assumes nothing.
use mathlib.Core.Path.{◌≡◌}
use mathlib.Core.List.{List}
use Prim.Native.Nat.{ℕ}
use Rattle.text.specs.Put.{gave}
use Rattle.text.proofs.Settled.{written_settled}
use Rattle.why.specs.declared.Reason.{Reason}
use Rattle.explained.specs.Shown.{shown_of}

pub shown_settled : (input : List ℕ) (place : ℕ) (reason : Reason) (out : List ℕ) (r s : ℕ) (one other : List ℕ)
    → gave r one ≡ shown_of input place reason out → gave s other ≡ shown_of input place reason out → (r ≡ s) × (one ≡ other)
shown_settled input place reason out = written_settled (shown_of input place reason out)
