-- A byte and its fields: the cases of `bits` that a function meets, and a byte put together again from its fields. Assumes nothing.
use mathlib.Core.Path.{◌≡◌, refl, sym, ap, ap₂, ◌∙◌}
use mathlib.Core.List.{List, [], ◌∷◌}
use Prim.Native.Nat.{ℕ, zero, suc, ◌+◌, ◌-◌, ◌*◌, ◌/◌, ◌%◌, ◌^◌, ◌<◌, ◌≤◌}
use native.Mathlib.Nat.{add_assoc, add_comm, zero-mul, div-one, mod-one, div-eq_of_lt, mod-eq_of_lt, mul_assoc, add-mul, lt_of_lt_of_le, pow-succ'}
use native.Mathlib.Omega.{arith}
use mathlib.Core.Bool.{Bool, true, false}
use lib.Dec.{eqb}
use lib.Arith.{digits_lt, digits_div, digits_mod}
use lib.Pow.{pow_mono, pow-lt, pow-add, shr-shr, shr_le, shr_lt, split}
use Rattle.wire.specs.Fields.{flag, bits, fields_from, pack_from, fields, pack}

module _ (c hi lo : ℕ) where
  pub no_bits : hi < lo → bits c hi lo ≡ 0
  no_bits h = let none : hi + 1 - lo ≡ 0 = omega arith in rw none (mod-one (c / 2 ^ lo))

  module _ (byte : c < 256) where
    pub past_byte : 7 < lo → c / 2 ^ lo ≡ 0
    past_byte h = div-eq_of_lt (lt_of_lt_of_le byte (pow_mono {i = 8} {j = lo} h))

    pub all-bits : lo ≤ hi → 7 ≤ hi - lo → bits c hi lo ≡ c / 2 ^ lo
    all-bits h wide =
        let b : c / 2 ^ lo < 256 = omega (arith, shr_le c lo) in
        mod-eq_of_lt (lt_of_lt_of_le b (pow_mono {i = 8} {j = hi + 1 - lo} (omega arith)))

-- the modulus of a field of up to seven bits, as a shift of a byte makes it
pub modulus : (hi lo : ℕ) → lo ≤ hi → hi - lo < 7 → 2 * 2 ^ (hi - lo) % 256 ≡ 2 ^ (hi + 1 - lo)
modulus hi lo h small =
    let width : hi + 1 - lo ≡ suc (hi - lo) = omega arith in
    rw (width, ← pow-succ' 2 (hi - lo)) (mod-eq_of_lt (pow-lt {i = suc (hi - lo)} {j = 8} (omega arith)))

-- the number of bits of a layout
abbrev pub width_of : List ℕ → ℕ
width_of [] = 0
width_of (w ∷ ws) = width_of ws + w

-- as many fields as the layout has, each of its width
abbrev pub Fit : List ℕ → List ℕ → Type 0
Fit [] [] = Unit {0}
Fit [] (d ∷ ds) = ⊥
Fit (w ∷ ws) [] = ⊥
Fit (w ∷ ws) (d ∷ ds) = (d < 2 ^ w) × Fit ws ds

fields_up : (lo k : ℕ) (ws : List ℕ) (c : ℕ) → fields_from (lo + k) ws c ≡ fields_from k ws (c / 2 ^ lo)
fields_up lo k [] c = refl
fields_up lo k (w ∷ ws) c = ap₂ ◌∷◌ (ap (λ n. n % 2 ^ w) (sym (shr-shr c lo k))) (rw (add_assoc lo k w) (fields_up lo (k + w) ws c))

pack_up : (lo k : ℕ) (ws ds : List ℕ) → pack_from (lo + k) ws ds ≡ pack_from k ws ds * 2 ^ lo
pack_up lo k [] ds = sym (zero-mul (2 ^ lo))
pack_up lo k (w ∷ ws) [] = sym (zero-mul (2 ^ lo))
pack_up lo k (w ∷ ws) (d ∷ ds) =
    let head : d * 2 ^ (lo + k) ≡ d * 2 ^ k * 2 ^ lo = rw (add_comm lo k, pow-add 2 k lo) (sym (mul_assoc d (2 ^ k) (2 ^ lo))) in
    rw (head, add_assoc lo k w, pack_up lo (k + w) ws ds) (sym (add-mul (d * 2 ^ k) (pack_from (k + w) ws ds) (2 ^ lo)))

-- the lowest field, and the rest above it
pack-cons : (w d : ℕ) (ws ds : List ℕ) → pack (w ∷ ws) (d ∷ ds) ≡ pack ws ds * 2 ^ w + d
pack-cons w d ws ds = let up : 0 + w ≡ w + 0 = omega arith in rw (up, pack_up w 0 ws ds) (omega arith)

fields-cons : (w : ℕ) (ws : List ℕ) (c : ℕ) → fields (w ∷ ws) c ≡ c % 2 ^ w ∷ fields ws (c / 2 ^ w)
fields-cons w ws c = let up : 0 + w ≡ w + 0 = omega arith in rw (div-one c, up, fields_up w 0 ws c)

pub pack-fits : (ws ds : List ℕ) → Fit ws ds → pack ws ds < 2 ^ width_of ws
pack-fits [] [] f = omega arith
pack-fits [] (d ∷ ds) f = elim f [ ]
pack-fits (w ∷ ws) [] f = elim f [ ]
pack-fits (w ∷ ws) (d ∷ ds) f = rw (pack-cons w d ws ds, pow-add 2 (width_of ws) w) (digits_lt (pack-fits ws ds f.1) f.0)

-- fields that fit come back from the byte that they are packed into ..
pub fields-pack : (ws ds : List ℕ) → Fit ws ds → fields ws (pack ws ds) ≡ ds
fields-pack [] [] f = refl
fields-pack [] (d ∷ ds) f = elim f [ ]
fields-pack (w ∷ ws) [] f = elim f [ ]
fields-pack (w ∷ ws) (d ∷ ds) f =
    rw (pack-cons w d ws ds, fields-cons w ws (pack ws ds * 2 ^ w + d), digits_mod (pack ws ds) f.0, digits_div (pack ws ds) f.0)
    (ap (λ l. d ∷ l) (fields-pack ws ds f.1))

-- .. and a byte comes back from its fields
pub pack-fields : (ws : List ℕ) (c : ℕ) → c < 2 ^ width_of ws → pack ws (fields ws c) ≡ c
pack-fields [] c h = omega arith
pack-fields (w ∷ ws) c h =
    let rest : c / 2 ^ w < 2 ^ width_of ws = shr_lt (width_of ws) w h in
    ap (pack (w ∷ ws)) (fields-cons w ws c) ∙ pack-cons w (c % 2 ^ w) ws (fields ws (c / 2 ^ w))
    ∙ ap (λ n. n * 2 ^ w + c % 2 ^ w) (pack-fields ws (c / 2 ^ w) rest)
    ∙ split c w

-- a flag and its bit
pub flag-on : (b : Bool) → eqb (flag b) 1 ≡ b
flag-on true = refl
flag-on false = refl

pub on-flag : (d : ℕ) → d < 2 → flag (eqb d 1) ≡ d
on-flag zero h = refl
on-flag (suc zero) h = refl
on-flag (suc (suc d)) h = absurd (omega arith)

pub flag-fits : (b : Bool) → flag b < 2
flag-fits true = omega arith
flag-fits false = omega arith
