-- Document 01's notation for the fields of a byte: "bits 6-5", "bit 4". Assumes nothing.
use Rattle.std.specs.Prelude.{ℕ, ◌+◌, ◌-◌, ◌*◌, ◌/◌, ◌%◌, ◌^◌, Bool, true, false, List, [], ◌∷◌, eqb}

-- bits hi to lo of the byte c
abbrev pub bits : ℕ → ℕ → ℕ → ℕ
bits c hi lo = c / 2 ^ lo % 2 ^ (hi + 1 - lo)

abbrev pub bit : ℕ → ℕ → ℕ
bit c k = c / 2 ^ k % 2

-- a bit as a bool, and back
abbrev pub on : ℕ → ℕ → Bool
on c k = eqb (bit c k) 1

abbrev pub flag : Bool → ℕ
flag true = 1
flag false = 0

-- A byte as fields that stand one above the other from bit `lo` on, each with its width in bits, the lowest first.
abbrev pub fields_from : ℕ → List ℕ → ℕ → List ℕ
fields_from lo [] c = []
fields_from lo (w ∷ ws) c = c / 2 ^ lo % 2 ^ w ∷ fields_from (lo + w) ws c

abbrev pub fields : List ℕ → ℕ → List ℕ
fields ws c = fields_from 0 ws c

-- the byte that holds the given fields
abbrev pub pack_from : ℕ → List ℕ → List ℕ → ℕ
pack_from lo [] ds = 0
pack_from lo (w ∷ ws) [] = 0
pack_from lo (w ∷ ws) (d ∷ ds) = d * 2 ^ lo + pack_from (lo + w) ws ds

abbrev pub pack : List ℕ → List ℕ → ℕ
pack ws ds = pack_from 0 ws ds

-- a byte of eight flags, bit 0 first
abbrev pub eight_flags : Bool → Bool → Bool → Bool → Bool → Bool → Bool → Bool → ℕ
eight_flags b0 b1 b2 b3 b4 b5 b6 b7 =
    pack (1 ∷ 1 ∷ 1 ∷ 1 ∷ 1 ∷ 1 ∷ 1 ∷ 1 ∷ [])
    (flag b0 ∷ flag b1 ∷ flag b2 ∷ flag b3 ∷ flag b4 ∷ flag b5 ∷ flag b6 ∷ flag b7 ∷ [])
