-- What change requests T-02 and T-08 say of the place beside an answer to a radio frame. Assumes nothing.
use Rattle.std.specs.Prelude.{ℕ, ◌≡◌, List}
use Rattle.wire.specs.Answers.{Answer, number_of, place_of, CauseNamed}
use Rattle.wire.specs.Places.{FirstNot}
use Rattle.radio.specs.Read.{padding_start, above}

-- "for NO_SYNC the first of the bytes 0 to 2 that isn't 7F, for PADDING the first non-zero one (as a byte of the frame, from 0)"; for
-- RESERVED "the first such level in C1 to C4 order"; every other answer carries none
pub record TellsWhich (frame : List ℕ) (n : ℕ) (answer : Answer) : Type 0 where
  pub sync : number_of answer ≡ 6 → FirstNot 0x7f frame 0 3 (place_of answer)
  pub padding : number_of answer ≡ 7 → FirstNot 0 frame (padding_start n) 512 (place_of answer)
  pub level : number_of answer ≡ 8 → CauseNamed (above frame) answer
  pub none : (number_of answer ≡ 6 → ⊥) → (number_of answer ≡ 7 → ⊥) → (number_of answer ≡ 8 → ⊥) → place_of answer ≡ 0
