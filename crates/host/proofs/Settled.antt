-- Any two outcomes that a call's contract admits coincide. Assumes nothing.
use mathlib.Core.Path.{◌≡◌, refl, sym, ap, ◌∙◌}
use mathlib.Core.List.{List}
use Prim.Native.Nat.{ℕ}
use lib.IntN.{ℤ}
use Rattle.std.specs.Prelude.{Result, Ok, Err}
use Rattle.wire.specs.Answers.{Answer}
use Rattle.wire.specs.declared.Refusal.{Refusal}
use Rattle.host.specs.Build as building
use Rattle.host.specs.Read as reading
use Rattle.host.specs.declared.Builder.{Builder}
use Rattle.host.specs.declared.Reading.{Reading}
use Rattle.host_record.specs.declared.record.Host.{Host}
use Rattle.wire.proofs.Settled.{settled}

-- an outcome tells the result
abbrev read_result : Answer → reading.Outcome → Result Reading Refusal
read_result (Ok _) o = Ok (record { address = o.address; host = o.host })
read_result (Err refusal) o = Err refusal

abbrev build_result : Answer → building.Outcome → Result Builder Refusal
build_result (Ok _) o = Ok o.builder
build_result (Err refusal) o = Err refusal

read_told : (host : Host) (r : Result Reading Refusal) (audio : List ℤ) → (read_result (reading.gave host r audio).answer (reading.gave host r audio) ≡ r) × ((reading.gave host r audio).audio ≡ audio)
read_told host (Ok r) audio = (refl, refl)
read_told host (Err refusal) audio = (refl, refl)

build_told : (b : Builder) (r : Result Builder Refusal) (frame : List ℕ) → (build_result (building.gave b r frame).answer (building.gave b r frame) ≡ r) × ((building.gave b r frame).frame ≡ frame)
build_told b (Ok next) frame = (refl, refl)
build_told b (Err refusal) frame = (refl, refl)

-- two readings of one frame into one record agree in the address and the record, or the refusal, and the whole sample slice
pub read_settled : (frame : List ℕ) (audio : List ℤ) (host : Host) (r s : Result Reading Refusal) (left right : List ℤ) → reading.gave host r left ≡ reading.read_of frame audio host → reading.gave host s right ≡ reading.read_of frame audio host → (r ≡ s) × (left ≡ right)
read_settled frame audio host r s left right p q =
    let same : reading.gave host r left ≡ reading.gave host s right = settled p q in
    let one = read_told host r left in
    let other = read_told host s right in
    (sym one.0 ∙ ap (λ (o : reading.Outcome). read_result o.answer o) same ∙ other.0, sym one.1 ∙ ap (λ (o : reading.Outcome). o.audio) same ∙ other.1)

-- two builds by one builder agree in the next builder, or the refusal, and the whole frame
pub build_settled : (b : Builder) (audio : List ℤ) (frame : List ℕ) (r s : Result Builder Refusal) (left right : List ℕ) → building.gave b r left ≡ building.build_of b audio frame → building.gave b s right ≡ building.build_of b audio frame → (r ≡ s) × (left ≡ right)
build_settled b audio frame r s left right p q =
    let same : building.gave b r left ≡ building.gave b s right = settled p q in
    let one = build_told b r left in
    let other = build_told b s right in
    (sym one.0 ∙ ap (λ (o : building.Outcome). build_result o.answer o) same ∙ other.0, sym one.1 ∙ ap (λ (o : building.Outcome). o.frame) same ∙ other.1)
