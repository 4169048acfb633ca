-- Any two outcomes that the contract of the plain reader through the door admits coincide: the number returned, and the output at exit.
-- Assumes nothing.
use mathlib.Core.Path.{◌≡◌, ap}
use mathlib.Core.List.{List}
use Prim.Native.Nat.{ℕ}
use Rattle.wire.proofs.Settled.{settled}
use Rattle.cells.specs.Cells.{wrote}
use Rattle.hpsdr_plain.specs.Plain.{plain_read_of}

pub plain_read_settled : (input output : List ℕ) (k k' : ℕ) (out out' : List ℕ) → wrote k out ≡ plain_read_of input output → wrote k' out' ≡ plain_read_of input output → (k ≡ k') × (out ≡ out')
plain_read_settled input output k k' out out' p q =
    let same = settled p q in
    (ap (λ o. o.number) same, ap (λ o. o.lent) same)
