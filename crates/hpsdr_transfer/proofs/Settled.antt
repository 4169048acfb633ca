-- Any two outcomes that the contract of a transfer through the door admits coincide: the number returned, and every lent slice at exit.
-- Assumes nothing.
use mathlib.Core.Path.{◌≡◌, ap}
use mathlib.Core.List.{List}
use Prim.Native.Nat.{ℕ}
use lib.IntN.{ℤ}
use Rattle.wire.proofs.Settled.{settled}
use Rattle.radio_door.specs.Radio.{gave}
use Rattle.hpsdr_transfer.specs.Transfer.{read_transfer_of}

pub transfer_settled : (input : List ℕ) (n : ℕ) (iq mic : List ℤ) (cells : List ℕ) (k k' : ℕ) (cells₁ cells₂ : List ℕ) (iq₁ iq₂ mic₁ mic₂ : List ℤ) → gave k cells₁ iq₁ mic₁ ≡ read_transfer_of input n iq mic cells → gave k' cells₂ iq₂ mic₂ ≡ read_transfer_of input n iq mic cells → (k ≡ k') × (cells₁ ≡ cells₂) × (iq₁ ≡ iq₂) × (mic₁ ≡ mic₂)
transfer_settled input n iq mic cells k k' cells₁ cells₂ iq₁ iq₂ mic₁ mic₂ one other =
    let same = settled one other in
    (ap (λ o. o.number) same, ap (λ o. o.status) same, ap (λ o. o.iq) same, ap (λ o. o.mic) same)
