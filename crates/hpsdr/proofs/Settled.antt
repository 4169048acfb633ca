-- Any two outcomes that the contract of a call through the door admits coincide: the number returned, and every lent slice at exit.
-- The stream's `sound` returns a number alone, which its contract gives. Assumes nothing.
use mathlib.Core.Path.{◌≡◌, ap}
use mathlib.Core.List.{List}
use Prim.Native.Nat.{ℕ}
use lib.IntN.{ℤ}
use Rattle.wire.proofs.Settled.{settled}
use Rattle.cells.specs.Cells.{Written, wrote}
use Rattle.host_door.specs.HostCalls as Host
use Rattle.radio_door.specs.Radio as Radio
use Rattle.stream_door.specs.Stream as Stream

-- a write, the layout's row and the fresh records, whatever their definition gives
pub one_slice_settled : (given : Written) (k k' : ℕ) (lent lent' : List ℕ) → wrote k lent ≡ given → wrote k' lent' ≡ given → (k ≡ k') × (lent ≡ lent')
one_slice_settled given k k' lent lent' p q =
    let same : wrote k lent ≡ wrote k' lent' = settled p q in
    (ap (λ (o : Written). o.number) same, ap (λ (o : Written). o.lent) same)

pub read_settled : (given : Radio.Outcome) (k k' : ℕ) (cells cells' : List ℕ) (iq iq' mic mic' : List ℤ) → Radio.gave k cells iq mic ≡ given → Radio.gave k' cells' iq' mic' ≡ given → (k ≡ k') × (cells ≡ cells') × (iq ≡ iq') × (mic ≡ mic')
read_settled given k k' cells cells' iq iq' mic mic' p q =
    let same : Radio.gave k cells iq mic ≡ Radio.gave k' cells' iq' mic' = settled p q in
    (ap (λ (o : Radio.Outcome). o.number) same, ap (λ (o : Radio.Outcome). o.status) same, ap (λ (o : Radio.Outcome). o.iq) same, ap (λ (o : Radio.Outcome). o.mic) same)

pub host_read_settled : (given : Host.Outcome) (k k' : ℕ) (cells cells' : List ℕ) (audio audio' : List ℤ) → Host.gave k cells audio ≡ given → Host.gave k' cells' audio' ≡ given → (k ≡ k') × (cells ≡ cells') × (audio ≡ audio')
host_read_settled given k k' cells cells' audio audio' p q =
    let same : Host.gave k cells audio ≡ Host.gave k' cells' audio' = settled p q in
    (ap (λ (o : Host.Outcome). o.number) same, ap (λ (o : Host.Outcome). o.host) same, ap (λ (o : Host.Outcome). o.audio) same)

pub build_settled : (given : Host.Done) (k k' : ℕ) (cells cells' frame frame' : List ℕ) → Host.built k cells frame ≡ given → Host.built k' cells' frame' ≡ given → (k ≡ k') × (cells ≡ cells') × (frame ≡ frame')
build_settled given k k' cells cells' frame frame' p q =
    let same : Host.built k cells frame ≡ Host.built k' cells' frame' = settled p q in
    (ap (λ (o : Host.Done). o.number) same, ap (λ (o : Host.Done). o.builder) same, ap (λ (o : Host.Done). o.frame) same)

pub fresh_settled : (given : Stream.Left) (k k' : ℕ) (counts counts' held held' : List ℕ) → Stream.left k counts held ≡ given → Stream.left k' counts' held' ≡ given → (k ≡ k') × (counts ≡ counts') × (held ≡ held')
fresh_settled given k k' counts counts' held held' p q =
    let same : Stream.left k counts held ≡ Stream.left k' counts' held' = settled p q in
    (ap (λ (o : Stream.Left). o.number) same, ap (λ (o : Stream.Left). o.counts) same, ap (λ (o : Stream.Left). o.held) same)

pub feed_settled : (given : Stream.Outcome) (k k' : ℕ) (counts counts' held held' output output' : List ℕ) → Stream.gave k counts held output ≡ given → Stream.gave k' counts' held' output' ≡ given → (k ≡ k') × (counts ≡ counts') × (held ≡ held') × (output ≡ output')
feed_settled given k k' counts counts' held held' output output' p q =
    let same : Stream.gave k counts held output ≡ Stream.gave k' counts' held' output' = settled p q in
    (ap (λ (o : Stream.Outcome). o.number) same, ap (λ (o : Stream.Outcome). o.counts) same, ap (λ (o : Stream.Outcome). o.held) same, ap (λ (o : Stream.Outcome). o.output) same)
