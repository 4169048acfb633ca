-- T-08: no level above 4,095 comes out of a transfer. A record that has none keeps having none, accepted or refused. Assumes nothing.
use mathlib.Core.Path.{ap, subst⁻¹}
use mathlib.Core.List.{List}
use Prim.Native.Nat.{ℕ, zero, suc, ◌*◌}
use lib.IntN.{ℤ}
use lib.ListN.{drop}
use Rattle.wire.specs.Numbers.{Bytes}
use Rattle.wire.proofs.Bytes.{bytes_take, bytes_drop}
use Rattle.layout.specs.Slots.{slots, values}
use Rattle.radio_status.specs.Control.{Leveled}
use Rattle.radio_status.specs.declared.record.Status.{Status}
use Rattle.radio.proofs.NoLevelAbove.{levels_stay}
use Rattle.transfer.specs.SingleReads.{Standing, single_reads}
use Rattle.transfer.specs.Transfer.{frame_at, transfer_of}
use Rattle.transfer.proofs.SingleReads.{equals_single_reads, by_begun}

module _ (input : List ℕ) (small : Bytes input) (n : ℕ) (given : Standing) (leveled : Leveled given.status) where
  single_reads_stay : (k : ℕ) → Leveled (single_reads input n k given).status
  single_reads_stay zero = leveled
  single_reads_stay (suc k) =
      let before = single_reads input n k given in
      levels_stay (frame_at input k) n (drop (k * values n) before.iq) (drop (k * slots n) before.mic) before.status (bytes_take 512 (drop (k * 512) input) (bytes_drop (k * 512) input small)) (single_reads_stay k)

pub transfer_levels_stay : (input : List ℕ) (n : ℕ) (iq mic : List ℤ) (s : Status) → Bytes input → Leveled s → Leveled (transfer_of input n iq mic s).status
transfer_levels_stay input n iq mic s small leveled =
    by_begun input n iq mic s (λ o. Leveled o.status) (λ _. leveled)
    (λ is.
    let given : Standing = record { status = s; iq = iq; mic = mic } in
    subst⁻¹ Leveled (ap (λ (h : Standing). h.status) (equals_single_reads input n iq mic s is).left) (single_reads_stay input small n given leveled (transfer_of input n iq mic s).frames))
