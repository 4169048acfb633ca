-- Document 01, "Words from the radio", as they are written: C0 to C4 of each word, and what does not fit. Assumes nothing.
use Rattle.std.specs.Prelude.{ℕ, ◌≤◌, Bool, false, cond, not, ◌&&◌, List, [], ◌∷◌, ◌++◌, eqb, leb}
use Rattle.wire.specs.Fields.{flag, pack, eight_flags}
use Rattle.wire.specs.Numbers.{bytes_of}
use Rattle.wire.specs.Sync.{header_of, headed}
use Rattle.radio_status.specs.declared.record.Inputs.{Inputs}
use Rattle.radio_status.specs.declared.record.Overflow.{Overflow}
use Rattle.radio_status.specs.declared.record.Versions.{Versions}
use Rattle.radio_status.specs.declared.record.Status.{Status}
use Rattle.radio_status.specs.declared.words.Word.{Word}
use Rattle.radio_status.specs.declared.words.Word.TheVariants.{Input, Forward, Reverse, Supply, Board, Unlisted}

-- "C0 bits 7-3 are the address; bit 2 DOT, bit 1 DASH, bit 0 PTT"
abbrev pub key_byte : Status → ℕ → ℕ
key_byte s w = pack (1 ∷ 1 ∷ 1 ∷ 5 ∷ []) (flag s.ptt ∷ flag s.dash ∷ flag s.dot ∷ w ∷ [])

-- word 0's C1, whose bit 7 is written as 0; an input's bit is 0 when it is active
abbrev pub input_byte : Bool → Inputs → ℕ
input_byte adc1 i =
    eight_flags adc1 (not i.io1) (not i.io2) (not i.io3) (not i.io4) i.pll i.toggle false

-- word 4's byte of a board: bit 0 overflow, bits 7-1 version
abbrev pub board_byte : Bool → ℕ → ℕ
board_byte overflow version = pack (1 ∷ 7 ∷ []) (flag overflow ∷ version ∷ [])

abbrev pub level_bytes : ℕ → ℕ → List ℕ
level_bytes a b = bytes_of 2 a ++ bytes_of 2 b

abbrev pub input_bytes : Bool → Inputs → List ℕ
input_bytes adc1 i = input_byte adc1 i ∷ i.mercury ∷ i.penelope ∷ i.main ∷ []

abbrev pub board_bytes : Overflow → Versions → List ℕ
board_bytes o v = board_byte o.adc1 v.board1 ∷ board_byte o.adc2 v.board2 ∷ board_byte o.adc3 v.board3 ∷ board_byte o.adc4 v.board4 ∷ []

-- C1 to C4 of word w
unfoldable pub word_bytes : Status → ℕ → List ℕ
word_bytes s w =
    cond (eqb w 0) (input_bytes s.overflow.adc1 s.inputs)
    (cond (eqb w 1) (level_bytes s.forward.ain5 s.forward.ain1)
    (cond (eqb w 2) (level_bytes s.reverse.ain2 s.reverse.ain3)
    (cond (eqb w 3) (level_bytes s.supply.ain4 s.supply.ain6)
    (board_bytes s.overflow s.versions))))

-- "7F 7F 7F, then C0 to C4"
abbrev pub header : Status → ℕ → List ℕ
header s w = header_of (key_byte s w) (word_bytes s w)

-- "a version .. above 127", in any of the four boards
abbrev pub versions_fit : Versions → Bool
versions_fit v = leb v.board1 127 && leb v.board2 127 && leb v.board3 127 && leb v.board4 127

-- T-08: "RANGE on writing one above 4,095", any of the six
abbrev pub levels_fit : Status → Bool
levels_fit s =
    leb s.forward.ain5 4095 && leb s.forward.ain1 4095
    && leb s.reverse.ain2 4095 && leb s.reverse.ain3 4095
    && leb s.supply.ain4 4095 && leb s.supply.ain6 4095

-- a record that can be written, whichever word is due
abbrev pub status_fits : Status → Bool
status_fits s = versions_fit s.versions && levels_fit s

-- of the versions, as a writer of word 4 asks it
pub record Versioned (v : Versions) : Type 0 where
  pub first : v.board1 ≤ 127
  pub second : v.board2 ≤ 127
  pub third : v.board3 ≤ 127
  pub fourth : v.board4 ≤ 127

-- of the levels, as a reader is promised them: those of a record, and those of the word that came
pub record Leveled (s : Status) : Type 0 where
  pub ain5 : s.forward.ain5 ≤ 4095
  pub ain1 : s.forward.ain1 ≤ 4095
  pub ain2 : s.reverse.ain2 ≤ 4095
  pub ain3 : s.reverse.ain3 ≤ 4095
  pub ain4 : s.supply.ain4 ≤ 4095
  pub ain6 : s.supply.ain6 ≤ 4095

abbrev pub LeveledWord : Word → Type 0
LeveledWord (Input w) = Unit {0}
LeveledWord (Forward l) = (l.ain5 ≤ 4095) × (l.ain1 ≤ 4095)
LeveledWord (Reverse l) = (l.ain2 ≤ 4095) × (l.ain3 ≤ 4095)
LeveledWord (Supply l) = (l.ain4 ≤ 4095) × (l.ain6 ≤ 4095)
LeveledWord (Board w) = Unit {0}
LeveledWord (Unlisted a) = Unit {0}

-- the header of word w over the start of a frame; with a record that cannot be written, or "a radio word to write outside 0 to 4", the
-- frame as it was
unfoldable pub header_over : Status → ℕ → List ℕ → List ℕ
header_over s w frame = cond (status_fits s && leb w 4) (headed (key_byte s w) (word_bytes s w) frame) frame
