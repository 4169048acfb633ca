-- Which fields of the status record each word carries. Document 01, "Words from the radio". Assumes nothing.
use Rattle.std.specs.Prelude.{ℕ, Bool, true, false, List, [], ◌∷◌, ◌++◌, replicate}
use Rattle.wire.specs.Fields.{flag}
use Rattle.radio_status.specs.declared.record.Status.{Status}
use Rattle.radio_status.specs.declared.words.Word.{Word}
use Rattle.radio_status.specs.declared.words.Word.TheVariants.{Input, Forward, Reverse, Supply, Board, Unlisted}

-- every field of the record, as a number
abbrev pub fields_of : Status → List ℕ
fields_of s =
    flag s.dot ∷ flag s.dash ∷ flag s.ptt
    ∷ flag s.overflow.adc1
    ∷ flag s.overflow.adc2 ∷ flag s.overflow.adc3 ∷ flag s.overflow.adc4
    ∷ flag s.inputs.io1 ∷ flag s.inputs.io2 ∷ flag s.inputs.io3 ∷ flag s.inputs.io4
    ∷ flag s.inputs.pll ∷ flag s.inputs.toggle
    ∷ s.inputs.mercury ∷ s.inputs.penelope ∷ s.inputs.main
    ∷ s.forward.ain5 ∷ s.forward.ain1
    ∷ s.reverse.ain2 ∷ s.reverse.ain3
    ∷ s.supply.ain4 ∷ s.supply.ain6
    ∷ s.versions.board1 ∷ s.versions.board2 ∷ s.versions.board3 ∷ s.versions.board4
    ∷ []

-- a mark for each of those fields, group by group: DOT, DASH and PTT; ADC 1; ADC 2 to 4; IO1 to IO4, PLL, toggle and serial
-- numbers; AIN5 and AIN1; AIN2 and AIN3; AIN4 and AIN6; versions
abbrev pub marks : Bool → Bool → Bool → Bool → Bool → Bool → Bool → Bool → List Bool
marks keys adc1 adcs inputs forward reverse supply versions =
    replicate 3 keys ++ (adc1 ∷ []) ++ replicate 3 adcs ++ replicate 9 inputs ++ replicate 2 forward ++ replicate 2 reverse ++ replicate 2 supply ++ replicate 4 versions

abbrev pub carries : Word → List Bool
carries (Input w) = marks true true false true false false false false
carries (Forward l) = marks true false false false true false false false
carries (Reverse l) = marks true false false false false true false false
carries (Supply l) = marks true false false false false false true false
carries (Board w) = marks true true true false false false false true
carries (Unlisted a) = marks true false false false false false false false

-- the fields without a mark, and those with one
abbrev pub unmarked : List Bool → List ℕ → List ℕ
unmarked [] xs = xs
unmarked (m ∷ ms) [] = []
unmarked (true ∷ ms) (x ∷ xs) = unmarked ms xs
unmarked (false ∷ ms) (x ∷ xs) = x ∷ unmarked ms xs
