-- What change request T-02 says of the place beside an answer to a host frame. Assumes nothing.
use Rattle.std.specs.Prelude.{ℕ, ◌≡◌, List}
use Rattle.wire.specs.Answers.{Answer, number_of, place_of, CauseNamed}
use Rattle.wire.specs.Control.{control_of}
use Rattle.wire.specs.Places.{FirstNot}
use Rattle.host_words.specs.Words.{is_set}

-- "for NO_SYNC the first of the bytes 0 to 2 that isn't 7F", "for RESERVED whether it was the 10 MHz source, the transmit relay or word 9's
-- C4 bit 7, in that order when two are wrong", and after them word 10's C1 bit 7; every other answer carries none
pub record TellsWhich (frame : List ℕ) (answer : Answer) : Type 0 where
  pub sync : number_of answer ≡ 6 → FirstNot 0x7f frame 0 3 (place_of answer)
  pub reserved : number_of answer ≡ 8 → CauseNamed (is_set (control_of frame)) answer
  pub none : (number_of answer ≡ 6 → ⊥) → (number_of answer ≡ 8 → ⊥) → place_of answer ≡ 0
