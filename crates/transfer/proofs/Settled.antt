-- Any two outcomes that the contract of a transfer admits coincide: the answer with what comes back beside it, and every lent slice
-- at exit. Assumes nothing.
use mathlib.Core.Path.{◌≡◌, ap}
use mathlib.Core.List.{List}
use Prim.Native.Nat.{ℕ}
use lib.IntN.{ℤ}
use Rattle.wire.proofs.Settled.{settled}
use Rattle.radio_status.specs.declared.record.Status.{Status}
use Rattle.transfer.specs.Transfer.{gave, transfer_of}
use Rattle.transfer.specs.declared.Transfer.{Transfer}

pub transfer_settled : (input : List ℕ) (n : ℕ) (iq mic : List ℤ) (s : Status) (r r' : Transfer) (iq₁ iq₂ mic₁ mic₂ : List ℤ) → gave r iq₁ mic₁ ≡ transfer_of input n iq mic s → gave r' iq₂ mic₂ ≡ transfer_of input n iq mic s → (r ≡ r') × (iq₁ ≡ iq₂) × (mic₁ ≡ mic₂)
transfer_settled input n iq mic s r r' iq₁ iq₂ mic₁ mic₂ one other =
    let same = settled one other in
    (ap (λ o. record { answer = o.answer; frames = o.frames; status = o.status }) same, ap (λ o. o.iq) same, ap (λ o. o.mic) same)
