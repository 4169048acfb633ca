-- Control bytes that were read, written again: each byte comes back from its fields. Assumes nothing.
use mathlib.Core.Path.{◌≡◌, refl, sym, ap, ◌∙◌}
use mathlib.Core.Bool.{true, not-not}
use mathlib.Core.List.{[], ◌∷◌, ◌++◌}
use Prim.Native.Nat.{ℕ, zero, suc, ◌<◌, ◌≤◌}
use native.Mathlib.Omega.{arith}
use borrow.Author.Tests.{le-leb}
use lib.Dec.{eqb}
use Rattle.wire.specs.Fields.{flag, bit, bits, on, pack, eight_flags}
use Rattle.wire.specs.Numbers.{Bytes}
use Rattle.wire.proofs.Bytes.{bytes_of-be}
use Rattle.wire.proofs.Pack.{pack-fields, on-flag}
use Rattle.radio_status.specs.Levels.{level}
use Rattle.radio_status.specs.Words.{address, input_word, word_at, carried, applied}
use Rattle.radio_status.specs.Control.{key_byte, input_byte, board_byte, level_bytes, word_bytes, versions_fit}
use Rattle.radio_status.specs.declared.record.Status.{Status}
use Rattle.radio_status.specs.declared.words.Word.{Word}
use Rattle.radio_status.proofs.Carries.{keys_follow}

-- a bit of a byte, through a bool and back
bit-again : (c k : ℕ) → flag (on c k) ≡ bit c k
bit-again c k = on-flag (bit c k) (omega arith)

eight_again : (c : ℕ) → c < 256 → eight_flags (on c 0) (on c 1) (on c 2) (on c 3) (on c 4) (on c 5) (on c 6) (on c 7) ≡ c
eight_again c byte =
    (λ i. pack (1 ∷ 1 ∷ 1 ∷ 1 ∷ 1 ∷ 1 ∷ 1 ∷ 1 ∷ []) (bit-again c 0 i ∷ bit-again c 1 i ∷ bit-again c 2 i ∷ bit-again c 3 i ∷ bit-again c 4 i ∷ bit-again c 5 i ∷ bit-again c 6 i ∷ bit-again c 7 i ∷ []))
    ∙ pack-fields (1 ∷ 1 ∷ 1 ∷ 1 ∷ 1 ∷ 1 ∷ 1 ∷ 1 ∷ []) c byte

-- word 0's C1, whose bit 7 was 0
input_again : (c c2 c3 c4 : ℕ) → c < 256 → bit c 7 ≡ 0 → input_byte (input_word c c2 c3 c4).adc1 (input_word c c2 c3 c4).inputs ≡ c
input_again c c2 c3 c4 byte clear =
    (λ i. eight_flags (on c 0) (not-not (on c 1) i) (not-not (on c 2) i) (not-not (on c 3) i) (not-not (on c 4) i) (on c 5) (on c 6) (ap (λ d. eqb d 1) (sym clear) i))
    ∙ eight_again c byte

board_again : (c : ℕ) → c < 256 → board_byte (on c 0) (bits c 7 1) ≡ c
board_again c byte = (λ i. pack (1 ∷ 7 ∷ []) (bit-again c 0 i ∷ bits c 7 1 ∷ [])) ∙ pack-fields (1 ∷ 7 ∷ []) c byte

two_bytes : (a b : ℕ) → a < 256 → b < 256 → Bytes (a ∷ b ∷ [])
two_bytes a b ha hb zero = ha
two_bytes a b ha hb (suc zero) = hb
two_bytes a b ha hb (suc (suc i)) = omega arith

module _ (c1 c2 c3 c4 : ℕ) (b1 : c1 < 256) (b2 : c2 < 256) (b3 : c3 < 256) (b4 : c4 < 256) where
  levels_again : level_bytes (level c1 c2) (level c3 c4) ≡ c1 ∷ c2 ∷ c3 ∷ c4 ∷ []
  levels_again = λ i. bytes_of-be (c1 ∷ c2 ∷ []) (two_bytes c1 c2 b1 b2) i ++ bytes_of-be (c3 ∷ c4 ∷ []) (two_bytes c3 c4 b3 b4) i

  -- C1 to C4 of the word that was read, whatever record it was read into
  pub word_bytes_again : (w : ℕ) → w ≤ 4 → (w ≡ 0 → bit c1 7 ≡ 0) → (s : Status) → word_bytes (carried (word_at w c1 c2 c3 c4) s) w ≡ c1 ∷ c2 ∷ c3 ∷ c4 ∷ []
  unfolding word_bytes
  word_bytes_again zero listed clear s = λ i. input_again c1 c2 c3 c4 b1 (clear refl) i ∷ c2 ∷ c3 ∷ c4 ∷ []
  word_bytes_again (suc zero) listed clear s = levels_again
  word_bytes_again (suc (suc zero)) listed clear s = levels_again
  word_bytes_again (suc (suc (suc zero))) listed clear s = levels_again
  word_bytes_again (suc (suc (suc (suc zero)))) listed clear s = λ i. board_again c1 b1 i ∷ board_again c2 b2 i ∷ board_again c3 b3 i ∷ board_again c4 b4 i ∷ []
  word_bytes_again (suc (suc (suc (suc (suc w))))) listed clear s = absurd (omega arith)

  version_low : (c : ℕ) → bits c 7 1 ≤ 127
  version_low c = omega arith

  -- no word that was read puts a version out of range
  pub versions-again : (w : ℕ) → w ≤ 4 → (s : Status) → versions_fit s.versions ≡ true → versions_fit (carried (word_at w c1 c2 c3 c4) s).versions ≡ true
  versions-again zero listed s fit = fit
  versions-again (suc zero) listed s fit = fit
  versions-again (suc (suc zero)) listed s fit = fit
  versions-again (suc (suc (suc zero))) listed s fit = fit
  versions-again (suc (suc (suc (suc zero)))) listed s fit =
      rw (le-leb _ 127 (version_low c1), le-leb _ 127 (version_low c2), le-leb _ 127 (version_low c3), le-leb _ 127 (version_low c4))
  versions-again (suc (suc (suc (suc (suc w))))) listed s fit = absurd (omega arith)

-- C0, from the keys and the address
pub key_again : (c0 : ℕ) → c0 < 256 → (word : Word) (s : Status) → key_byte (applied c0 word s) (address c0) ≡ c0
key_again c0 byte word s =
    let keys = keys_follow word c0 s in
    (λ i. pack (1 ∷ 1 ∷ 1 ∷ 5 ∷ []) (flag (keys.2 i) ∷ flag (keys.1 i) ∷ flag (keys.0 i) ∷ address c0 ∷ []))
    ∙ (λ i. pack (1 ∷ 1 ∷ 1 ∷ 5 ∷ []) (bit-again c0 0 i ∷ bit-again c0 1 i ∷ bit-again c0 2 i ∷ address c0 ∷ []))
    ∙ pack-fields (1 ∷ 1 ∷ 1 ∷ 5 ∷ []) c0 byte
