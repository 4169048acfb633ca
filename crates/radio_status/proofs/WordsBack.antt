-- Control bytes that were written, read again: the address, the keys, and the contents of each word. Assumes nothing.
use mathlib.Core.Path.{◌≡◌, refl, ap, ◌∙◌}
use mathlib.Core.Bool.{Bool, not, false, not-not}
use mathlib.Core.List.{List, [], ◌∷◌}
use Prim.Native.Nat.{ℕ, zero, suc, ◌/◌, ◌%◌, ◌≤◌}
use native.Mathlib.Nat.{mod-eq_of_lt}
use native.Mathlib.Omega.{arith}
use borrow.Author.Tests.{eq-eqb}
use lib.Dec.{eqb}
use lib.ListN.{get_or}
use Rattle.wire.specs.Answers.{Accepted, first}
use Rattle.wire.specs.Fields.{flag, bits, on, fields, eight_flags}
use Rattle.wire.specs.Numbers.{be, bytes_of}
use Rattle.wire.proofs.Bytes.{be-bytes_of}
use Rattle.wire.proofs.Pack.{fields-pack, flag-on, flag-fits}
use Rattle.radio_status.specs.Levels.{top_bits, top_set, level_tests}
use Rattle.radio_status.specs.RoundTrip.{word_from, with_keys}
use Rattle.radio_status.specs.Words.{address, dot_of, dash_of, ptt_of, keyed, word_at}
use Rattle.radio_status.specs.Control.{key_byte, input_byte, board_byte, word_bytes, Versioned, Leveled}
use Rattle.radio_status.specs.declared.record.Status.{Status}
use Rattle.radio_status.specs.declared.words.Word.TheVariants.{Input, Forward, Reverse, Supply, Board}

module _ (s : Status) (w : ℕ) (listed : w ≤ 4) where
  keys : fields (1 ∷ 1 ∷ 1 ∷ 5 ∷ []) (key_byte s w) ≡ flag s.ptt ∷ flag s.dash ∷ flag s.dot ∷ w ∷ []
  keys = fields-pack (1 ∷ 1 ∷ 1 ∷ 5 ∷ []) (flag s.ptt ∷ flag s.dash ∷ flag s.dot ∷ w ∷ []) (flag-fits s.ptt, (flag-fits s.dash, (flag-fits s.dot, (omega arith, tt))))

  pub address_back : address (key_byte s w) ≡ w
  address_back = ap (λ l. get_or l 3 0) keys

  pub dot_back : dot_of (key_byte s w) ≡ s.dot
  dot_back = ap (λ l. eqb (get_or l 2 0) 1) keys ∙ flag-on s.dot

  pub dash_back : dash_of (key_byte s w) ≡ s.dash
  dash_back = ap (λ l. eqb (get_or l 1 0) 1) keys ∙ flag-on s.dash

  pub ptt_back : ptt_of (key_byte s w) ≡ s.ptt
  ptt_back = ap (λ l. eqb (get_or l 0 0) 1) keys ∙ flag-on s.ptt

  -- all three, and the rest of any record as it was
  pub keys_back : (into : Status) → keyed (key_byte s w) into ≡ with_keys s into
  keys_back into =
      λ i. record {
        dot = dot_back i;
        dash = dash_back i;
        ptt = ptt_back i;
        overflow = into.overflow;
        inputs = into.inputs;
        forward = into.forward;
        reverse = into.reverse;
        supply = into.supply;
        versions = into.versions;
      }

level_back : (a : ℕ) → a ≤ 4095 → be (bytes_of 2 a) ≡ a
level_back a small = be-bytes_of 2 a ∙ mod-eq_of_lt (omega (arith, small))

-- the first byte of a level that was written has its top four bits clear
clear_top : (a : ℕ) → a ≤ 4095 → top_set (get_or (bytes_of 2 a) 0 0) ≡ false
clear_top a small = rw (eq-eqb (top_bits (a / 256 % 256)) 0 (omega (arith, small)))

-- the flags of a byte of eight
module _ (b0 b1 b2 b3 b4 b5 b6 b7 : Bool) where
  all_eight : fields (1 ∷ 1 ∷ 1 ∷ 1 ∷ 1 ∷ 1 ∷ 1 ∷ 1 ∷ []) (eight_flags b0 b1 b2 b3 b4 b5 b6 b7) ≡ flag b0 ∷ flag b1 ∷ flag b2 ∷ flag b3 ∷ flag b4 ∷ flag b5 ∷ flag b6 ∷ flag b7 ∷ []
  all_eight =
      fields-pack (1 ∷ 1 ∷ 1 ∷ 1 ∷ 1 ∷ 1 ∷ 1 ∷ 1 ∷ []) (flag b0 ∷ flag b1 ∷ flag b2 ∷ flag b3 ∷ flag b4 ∷ flag b5 ∷ flag b6 ∷ flag b7 ∷ [])
      (flag-fits b0, (flag-fits b1, (flag-fits b2, (flag-fits b3, (flag-fits b4, (flag-fits b5, (flag-fits b6, (flag-fits b7, tt))))))))

module _ (overflow : Bool) (version : ℕ) (small : version ≤ 127) where
  board : fields (1 ∷ 7 ∷ []) (board_byte overflow version) ≡ flag overflow ∷ version ∷ []
  board = fields-pack (1 ∷ 7 ∷ []) (flag overflow ∷ version ∷ []) (flag-fits overflow, (omega arith, tt))

  overflow_back : on (board_byte overflow version) 0 ≡ overflow
  overflow_back = ap (λ l. eqb (get_or l 0 0) 1) board ∙ flag-on overflow

  version_back : bits (board_byte overflow version) 7 1 ≡ version
  version_back = ap (λ l. get_or l 1 0) board

abbrev flags_of : Status → List ℕ
flags_of s =
    flag s.overflow.adc1 ∷ flag (not s.inputs.io1) ∷ flag (not s.inputs.io2) ∷ flag (not s.inputs.io3) ∷ flag (not s.inputs.io4) ∷ flag s.inputs.pll ∷ flag s.inputs.toggle ∷ 0 ∷ []

module _ (s : Status) (v : Versioned s.versions) (l : Leveled s) where
  -- word 0's C1, whose bit 7 is 0
  c1 : (k : ℕ) (b : Bool) → get_or (flags_of s) k 0 ≡ flag b → eqb (get_or (fields (1 ∷ 1 ∷ 1 ∷ 1 ∷ 1 ∷ 1 ∷ 1 ∷ 1 ∷ []) (input_byte s.overflow.adc1 s.inputs)) k 0) 1 ≡ b
  c1 k b is = ap (λ l. eqb (get_or l k 0) 1) (all_eight s.overflow.adc1 (not s.inputs.io1) (not s.inputs.io2) (not s.inputs.io3) (not s.inputs.io4) s.inputs.pll s.inputs.toggle false) ∙ ap (λ d. eqb d 1) is ∙ flag-on b

  active : (k : ℕ) (b : Bool) → get_or (flags_of s) k 0 ≡ flag (not b) → not (eqb (get_or (fields (1 ∷ 1 ∷ 1 ∷ 1 ∷ 1 ∷ 1 ∷ 1 ∷ 1 ∷ []) (input_byte s.overflow.adc1 s.inputs)) k 0) 1) ≡ b
  active k b is = ap not (c1 k (not b) is) ∙ not-not b

  -- each word's bytes give its contents back
  pub word_back : (w : ℕ) → w ≤ 4 → word_at w (get_or (word_bytes s w) 0 0) (get_or (word_bytes s w) 1 0) (get_or (word_bytes s w) 2 0) (get_or (word_bytes s w) 3 0) ≡ word_from s w
  unfolding word_bytes
  word_back zero listed =
      λ i. Input (record {
        adc1 = c1 0 s.overflow.adc1 refl i;
        inputs = record {
          io1 = active 1 s.inputs.io1 refl i;
          io2 = active 2 s.inputs.io2 refl i;
          io3 = active 3 s.inputs.io3 refl i;
          io4 = active 4 s.inputs.io4 refl i;
          pll = c1 5 s.inputs.pll refl i;
          toggle = c1 6 s.inputs.toggle refl i;
          mercury = s.inputs.mercury;
          penelope = s.inputs.penelope;
          main = s.inputs.main;
        };
      })
  word_back (suc zero) listed = λ i. Forward (record { ain5 = level_back s.forward.ain5 l.ain5 i; ain1 = level_back s.forward.ain1 l.ain1 i })
  word_back (suc (suc zero)) listed = λ i. Reverse (record { ain2 = level_back s.reverse.ain2 l.ain2 i; ain3 = level_back s.reverse.ain3 l.ain3 i })
  word_back (suc (suc (suc zero))) listed = λ i. Supply (record { ain4 = level_back s.supply.ain4 l.ain4 i; ain6 = level_back s.supply.ain6 l.ain6 i })
  word_back (suc (suc (suc (suc zero)))) listed =
      λ i. Board (record {
        overflow = record {
          adc1 = overflow_back s.overflow.adc1 s.versions.board1 v.first i;
          adc2 = overflow_back s.overflow.adc2 s.versions.board2 v.second i;
          adc3 = overflow_back s.overflow.adc3 s.versions.board3 v.third i;
          adc4 = overflow_back s.overflow.adc4 s.versions.board4 v.fourth i;
        };
        versions = record {
          board1 = version_back s.overflow.adc1 s.versions.board1 v.first i;
          board2 = version_back s.overflow.adc2 s.versions.board2 v.second i;
          board3 = version_back s.overflow.adc3 s.versions.board3 v.third i;
          board4 = version_back s.overflow.adc4 s.versions.board4 v.fourth i;
        };
      })
  word_back (suc (suc (suc (suc (suc w))))) listed = absurd (omega arith)

  -- and none of its levels is refused
  pub levels_pass : (w : ℕ) → w ≤ 4 → first (level_tests w (get_or (word_bytes s w) 0 0) (get_or (word_bytes s w) 2 0)) ≡ Accepted
  unfolding word_bytes
  levels_pass zero listed = refl
  levels_pass (suc zero) listed = rw (clear_top s.forward.ain5 l.ain5, clear_top s.forward.ain1 l.ain1)
  levels_pass (suc (suc zero)) listed = rw (clear_top s.reverse.ain2 l.ain2, clear_top s.reverse.ain3 l.ain3)
  levels_pass (suc (suc (suc zero))) listed = rw (clear_top s.supply.ain4 l.ain4, clear_top s.supply.ain6 l.ain6)
  levels_pass (suc (suc (suc (suc zero)))) listed = refl
  levels_pass (suc (suc (suc (suc (suc w))))) listed = absurd (omega arith)
