-- Lists of bytes: two one after another, and the frames that a reading hands out. Assumes nothing.
use mathlib.Core.Path.{◌≡◌}
use mathlib.Core.List.{List, ◌++◌}
use Prim.Native.Nat.{ℕ, ◌+◌, ◌-◌}
use native.Mathlib.Omega.{arith}
use lib.ListN.{length, take, drop, get_or-append}
use lib.Seq.{get_or-append-add}
use Rattle.wire.specs.Numbers.{Bytes}
use Rattle.wire.proofs.Bytes.{bytes_drop, bytes_take}
use Rattle.wire.proofs.Cases.{by_order}
use Rattle.reading.specs.Reading.{reading}
use Rattle.reading.proofs.Readings.{reading-few, reading-good, reading_none, reading_ind}

bytes_append : (x y : List ℕ) → Bytes x → Bytes y → Bytes (x ++ y)
bytes_append x y one other i =
    by_order i (length x)
    (λ below. rw (get_or-append x y 0 i below) (one i))
    (λ above. let place : i ≡ length x + (i - length x) = omega arith in rw (place, get_or-append-add x y (i - length x) 0) (other (i - length x)))

pub bytes-handed : (s : List ℕ) → Bytes s → Bytes (reading s).handed
bytes-handed =
    reading_ind (λ s. Bytes s → Bytes (reading s).handed)
    (λ s few small i. rw (reading-few s few) (omega arith))
    (λ s here rest small. rw (reading-good s here) (bytes_append (take 512 s) (reading (drop 512 s)).handed (bytes_take 512 s small) (rest (bytes_drop 512 s small))))
    (λ s enough none rest small. rw (reading_none s enough none) (rest (bytes_drop 1 s small)))
