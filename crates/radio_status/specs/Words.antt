-- Document 01, "Words from the radio", line by line. Assumes nothing.
use Rattle.std.specs.Prelude.{ℕ, Bool, cond, not, eqb}
use Rattle.wire.specs.Fields.{bits, on}
use Rattle.radio_status.specs.Levels.{in_pairs}
use Rattle.radio_status.specs.declared.levels.TwoLevels.{TwoLevels}
use Rattle.radio_status.specs.declared.record.Status.{Status}
use Rattle.radio_status.specs.declared.record.Overflow.{Overflow}
use Rattle.radio_status.specs.declared.record.Inputs.{Inputs}
use Rattle.radio_status.specs.declared.record.Versions.{Versions}
use Rattle.radio_status.specs.declared.record.ForwardLevels.{ForwardLevels}
use Rattle.radio_status.specs.declared.record.ReverseLevels.{ReverseLevels}
use Rattle.radio_status.specs.declared.record.SupplyLevels.{SupplyLevels}
use Rattle.radio_status.specs.declared.words.InputWord.{InputWord}
use Rattle.radio_status.specs.declared.words.BoardWord.{BoardWord}
use Rattle.radio_status.specs.declared.words.Word.{Word}
use Rattle.radio_status.specs.declared.words.Word.TheVariants.{Input, Forward, Reverse, Supply, Board, Unlisted}

-- "C0 bits 7-3 are the address; bit 2 DOT, bit 1 DASH, bit 0 PTT"
abbrev pub address : ℕ → ℕ
address c0 = bits c0 7 3

abbrev pub dot_of : ℕ → Bool
dot_of c0 = on c0 2

abbrev pub dash_of : ℕ → Bool
dash_of c0 = on c0 1

abbrev pub ptt_of : ℕ → Bool
ptt_of c0 = on c0 0

-- "0: C1 bit 0 ADC 1 overflow; bits 1 to 4 inputs IO1 to IO4, active when the bit is 0; bit 5 PLL locked; bit 6 the
-- frequency-changed toggle, kept as a bit. C2, C3, C4: Mercury, Penelope and main board serial numbers." Bit 7 is ignored.
abbrev pub input_word : ℕ → ℕ → ℕ → ℕ → InputWord
input_word c1 c2 c3 c4 =
    record {
      adc1 = on c1 0;
      inputs = record {
        io1 = not (on c1 1);
        io2 = not (on c1 2);
        io3 = not (on c1 3);
        io4 = not (on c1 4);
        pll = on c1 5;
        toggle = on c1 6;
        mercury = c2;
        penelope = c3;
        main = c4;
      };
    }

-- "1: C1C2 forward power AIN5; C3C4 forward power AIN1."
abbrev pub forward_levels : TwoLevels → ForwardLevels
forward_levels two = record { ain5 = two.c1c2; ain1 = two.c3c4 }

-- "2: C1C2 reverse power AIN2; C3C4 AIN3."
abbrev pub reverse_levels : TwoLevels → ReverseLevels
reverse_levels two = record { ain2 = two.c1c2; ain3 = two.c3c4 }

-- "3: C1C2 AIN4; C3C4 AIN6."
abbrev pub supply_levels : TwoLevels → SupplyLevels
supply_levels two = record { ain4 = two.c1c2; ain6 = two.c3c4 }

-- "4: C1 to C4, boards 1 to 4: bit 0 overflow, bits 7-1 version (0 to 127)."
abbrev pub board_word : ℕ → ℕ → ℕ → ℕ → BoardWord
board_word c1 c2 c3 c4 =
    record {
      overflow = record { adc1 = on c1 0; adc2 = on c2 0; adc3 = on c3 0; adc4 = on c4 0 };
      versions = record { board1 = bits c1 7 1; board2 = bits c2 7 1; board3 = bits c3 7 1; board4 = bits c4 7 1 };
    }

-- "one choice among six (the five words, each with its own contents, or unlisted with its address)"
abbrev pub word_with : TwoLevels → ℕ → ℕ → ℕ → ℕ → ℕ → Word
word_with two at c1 c2 c3 c4 =
    cond (eqb at 0) (Input (input_word c1 c2 c3 c4))
    (cond (eqb at 1) (Forward (forward_levels two))
    (cond (eqb at 2) (Reverse (reverse_levels two))
    (cond (eqb at 3) (Supply (supply_levels two))
    (cond (eqb at 4) (Board (board_word c1 c2 c3 c4))
    (Unlisted at)))))

abbrev pub word_at : ℕ → ℕ → ℕ → ℕ → ℕ → Word
word_at at c1 c2 c3 c4 = word_with (in_pairs c1 c2 c3 c4) at c1 c2 c3 c4

abbrev pub word_of : ℕ → ℕ → ℕ → ℕ → ℕ → Word
word_of c0 c1 c2 c3 c4 = word_at (address c0) c1 c2 c3 c4

-- the number that document 01 gives each choice: the word's address
abbrev pub word_number : Word → ℕ
word_number (Input w) = 0
word_number (Forward l) = 1
word_number (Reverse l) = 2
word_number (Supply l) = 3
word_number (Board w) = 4
word_number (Unlisted at) = at

-- "These three are set by every accepted frame, also by one with an unlisted address."
abbrev pub keyed : ℕ → Status → Status
keyed c0 s =
    record {
      dot = dot_of c0;
      dash = dash_of c0;
      ptt = ptt_of c0;
      overflow = s.overflow;
      inputs = s.inputs;
      forward = s.forward;
      reverse = s.reverse;
      supply = s.supply;
      versions = s.versions;
    }

-- the keys of s, and the parts that words carry
abbrev pub holding : Status → Overflow → Inputs → ForwardLevels → ReverseLevels → SupplyLevels → Versions → Status
holding s o i f r p v =
    record { dot = s.dot; dash = s.dash; ptt = s.ptt; overflow = o; inputs = i; forward = f; reverse = r; supply = p; versions = v }

-- "ADC 1 overflow is one field, set by words 0 and 4."
abbrev pub with_adc1 : Bool → Overflow → Overflow
with_adc1 told o = record { adc1 = told; adc2 = o.adc2; adc3 = o.adc3; adc4 = o.adc4 }

-- a word changes the fields it carries and no others
abbrev pub carried : Word → Status → Status
carried (Input w) s = holding s (with_adc1 w.adc1 s.overflow) w.inputs s.forward s.reverse s.supply s.versions
carried (Forward l) s = holding s s.overflow s.inputs l s.reverse s.supply s.versions
carried (Reverse l) s = holding s s.overflow s.inputs s.forward l s.supply s.versions
carried (Supply l) s = holding s s.overflow s.inputs s.forward s.reverse l s.versions
carried (Board w) s = holding s w.overflow s.inputs s.forward s.reverse s.supply w.versions
carried (Unlisted a) s = s

-- the record after an accepted frame with this C0 and this word
unfoldable pub applied : ℕ → Word → Status → Status
applied c0 w s = carried w (keyed c0 s)
