-- Any two outcomes that the contract of a call admits coincide: the number of bytes, and the lent slice at exit. Assumes nothing.
use mathlib.Core.Path.{◌≡◌}
use mathlib.Core.List.{List}
use Prim.Native.Nat.{ℕ}
use Rattle.text.specs.Put.{gave}
use Rattle.text.proofs.Settled.{written_settled}
use Rattle.framed.specs.Texts.{lines_written}

pub lines_settled : (frames : List ℕ) (count : ℕ) (out : List ℕ) (r s : ℕ) (one other : List ℕ)
    → gave r one ≡ lines_written frames count out → gave s other ≡ lines_written frames count out → (r ≡ s) × (one ≡ other)
lines_settled frames count out = written_settled (lines_written frames count out)
