-- Switches and fields through a byte and back: C0, and a byte of eight switches. Assumes nothing.
use mathlib.Core.Path.{◌≡◌, refl, ap, ◌∙◌}
use mathlib.Core.Bool.{Bool, true, false}
use mathlib.Core.List.{List, [], ◌∷◌}
use Prim.Native.Nat.{ℕ, zero, suc, ◌/◌, ◌^◌, ◌<◌}
use native.Mathlib.Nat.{mod-lt}
use native.Mathlib.Omega.{arith}
use lib.Dec.{eqb}
use lib.ListN.{get_or}
use Rattle.wire.proofs.Pack.{Fit, fields-pack, pack-fields}
use Rattle.wire.specs.Fields.{bits, bit, on, flag, fields, pack, eight_flags}
use Rattle.host_turn.specs.Sent.{c0_of}

-- a switch and its bit, there and back
pub flag-fits : (b : Bool) → flag b < 2
flag-fits true = omega arith
flag-fits false = omega arith

pub switched : (b : Bool) {n : ℕ} → n ≡ flag b → eqb n 1 ≡ b
switched true e = rw e
switched false e = rw e

flagged : (n : ℕ) → n < 2 → flag (eqb n 1) ≡ n
flagged zero h = refl
flagged (suc zero) h = refl
flagged (suc (suc n)) h = absurd (omega arith)

-- bit k of a byte, as it was switched
pub bit-back : (c k : ℕ) → flag (on c k) ≡ bit c k
bit-back c k = flagged (bit c k) (mod-lt (c / 2 ^ k) (omega arith))

-- field k of a byte that its fields were packed into
pub field_back : (ws ds : List ℕ) → Fit ws ds → (k : ℕ) → get_or (fields ws (pack ws ds)) k 0 ≡ get_or ds k 0
field_back ws ds fit k = ap (λ l. get_or l k 0) (fields-pack ws ds fit)

-- C0
module _ (turn : ℕ) (mox : Bool) (low : turn < 128) where
  c0_field : (k : ℕ) → get_or (fields (1 ∷ 7 ∷ []) (c0_of turn mox)) k 0 ≡ get_or (flag mox ∷ turn ∷ []) k 0
  c0_field = field_back (1 ∷ 7 ∷ []) (flag mox ∷ turn ∷ []) (flag-fits mox, (low, tt))

  pub c0_address : bits (c0_of turn mox) 7 1 ≡ turn
  c0_address = c0_field 1

  pub c0_mox : on (c0_of turn mox) 0 ≡ mox
  c0_mox = switched mox (c0_field 0)

pub c0_again : (c : ℕ) → c < 256 → c0_of (bits c 7 1) (on c 0) ≡ c
c0_again c byte = ap (λ m. pack (1 ∷ 7 ∷ []) (m ∷ bits c 7 1 ∷ [])) (bit-back c 0) ∙ pack-fields (1 ∷ 7 ∷ []) c byte

-- a byte of eight switches
abbrev pub ones : List ℕ
ones = 1 ∷ 1 ∷ 1 ∷ 1 ∷ 1 ∷ 1 ∷ 1 ∷ 1 ∷ []

module _ (s0 s1 s2 s3 s4 s5 s6 s7 : Bool) where
  pub eight_back : (k : ℕ) → get_or (fields ones (eight_flags s0 s1 s2 s3 s4 s5 s6 s7)) k 0 ≡ get_or (flag s0 ∷ flag s1 ∷ flag s2 ∷ flag s3 ∷ flag s4 ∷ flag s5 ∷ flag s6 ∷ flag s7 ∷ []) k 0
  eight_back =
      field_back ones (flag s0 ∷ flag s1 ∷ flag s2 ∷ flag s3 ∷ flag s4 ∷ flag s5 ∷ flag s6 ∷ flag s7 ∷ [])
      (flag-fits s0, (flag-fits s1, (flag-fits s2, (flag-fits s3, (flag-fits s4, (flag-fits s5, (flag-fits s6, (flag-fits s7, tt))))))))

pub eight_again : (c : ℕ) → c < 256 → eight_flags (on c 0) (on c 1) (on c 2) (on c 3) (on c 4) (on c 5) (on c 6) (on c 7) ≡ c
eight_again c byte =
    ap (pack ones) (λ i. bit-back c 0 i ∷ bit-back c 1 i ∷ bit-back c 2 i ∷ bit-back c 3 i ∷ bit-back c 4 i ∷ bit-back c 5 i ∷ bit-back c 6 i ∷ bit-back c 7 i ∷ [])
    ∙ pack-fields ones c byte
