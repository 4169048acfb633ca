-- The reading of a list that goes on: a step of it that ends before the end does not see what follows. Assumes nothing.
use mathlib.Core.Path.{◌≡◌, sym, ◌∙◌}
use mathlib.Core.List.{List, ◌++◌}
use Prim.Native.Nat.{ℕ}
use native.Mathlib.Omega.{arith}
use lib.ListN.{take, drop, length-append}
use lib.Seq.{take-append-le, drop-append-le}
use Rattle.reading.proofs.Readings.{good-long, good-append, leaving-then, then_then, reading-few, reading-good, reading_none, reading_ind}
use Rattle.reading.specs.Reading.{good, Reading, frame, skip, ◌and_then◌, reading}

-- what the reading of x hands out and skips, and then what it left is read with y after it
abbrev Cuts : List ℕ → List ℕ → Type 0
Cuts y x = reading (x ++ y) ≡ reading x and_then reading ((reading x).left ++ y)

-- a step of the reading that does not see y: the bytes that the reading goes on k past
more : (x y : List ℕ) (first : Reading) (k : ℕ) → reading x ≡ first and_then reading (drop k x) → reading (x ++ y) ≡ first and_then reading (drop k x ++ y) → Cuts y (drop k x) → Cuts y x
more x y first k alone with-y rest =
    rw (alone, with-y, rest) (sym (then_then first (reading (drop k x)) (reading ((reading (drop k x)).left ++ y))))

pub reading-append : (x y : List ℕ) → reading (x ++ y) ≡ reading x and_then reading ((reading x).left ++ y)
reading-append x y =
    reading_ind (Cuts y) (λ s few. rw (reading-few s few) (sym (leaving-then s (reading (s ++ y)))))
    (λ s here rest.
    let long = good-long s 0 here in
    let same : good (s ++ y) 0 ≡ good s 0 = good-append s y 0 long in
    more s y (frame (take 512 s)) 512 (reading-good s here)
    (rw (reading-good (s ++ y) (same ∙ here), take-append-le 512 s y (omega arith), drop-append-le 512 s y (omega arith))) rest)
    (λ s enough none rest.
    let same : good (s ++ y) 0 ≡ good s 0 = good-append s y 0 enough in
    more s y skip 1 (reading_none s enough none)
    (rw (reading_none (s ++ y) (rw (length-append s y) (omega arith)) (same ∙ none), drop-append-le 1 s y (omega arith))) rest)
    x
