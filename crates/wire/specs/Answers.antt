-- Document 01, "Nine refusals, in the order they are tested": their numbers, what each carries (T-02), and the first that holds.
-- Assumes nothing.
use Rattle.std.specs.Prelude.{ℕ, ◌+◌, ◌*◌, ◌<◌, ◌≡◌, Bool, true, false, cond, ◌&&◌, List, [], ◌∷◌, map, eqb, leb, Result, Ok, Err}
use Rattle.wire.specs.Causes.{causes, cause_number}
use Rattle.wire.specs.declared.Cause.{Cause}
use Rattle.wire.specs.declared.Refusal.{Refusal}
use Rattle.wire.specs.declared.Refusal.TheVariants.{BadState, BadCount, Length, ShortBuffer, StreamFull, NoSync, Padding, Reserved, Range}

-- "The first that holds is the answer; otherwise the call succeeds (0)"
abbrev pub Answer : Type 0
Answer = Result (Unit {0}) Refusal

abbrev pub Accepted : Answer
Accepted = Ok tt

-- The table, and T-02: "each of the three now carries its place", a byte of the frame from 0, or the number of the cause. No other answer
-- carries anything: its place is 0.
abbrev pub number_and_place : Answer → ℕ × ℕ
number_and_place (Ok _) = (0, 0)
number_and_place (Err BadState) = (1, 0)
number_and_place (Err BadCount) = (2, 0)
number_and_place (Err Length) = (3, 0)
number_and_place (Err ShortBuffer) = (4, 0)
number_and_place (Err StreamFull) = (5, 0)
number_and_place (Err (NoSync byte)) = (6, byte)
number_and_place (Err (Padding byte)) = (7, byte)
number_and_place (Err (Reserved cause)) = (8, cause_number cause)
number_and_place (Err Range) = (9, 0)

abbrev pub number_of : Answer → ℕ
number_of a = (number_and_place a).0

abbrev pub place_of : Answer → ℕ
place_of a = (number_and_place a).1

-- an answer as one number: its own in bits 7 to 0, and its place in bits 31 to 16
abbrev pub told : Answer → ℕ
told a = number_of a + 65536 * place_of a

-- the nine refusals, in the order they are tested, whatever place three of them carry
abbrev pub nine : ℕ → ℕ → Cause → List Refusal
nine byte padding cause =
    BadState ∷ BadCount ∷ Length ∷ ShortBuffer ∷ StreamFull ∷ NoSync byte ∷ Padding padding ∷ Reserved cause ∷ Range ∷ []

-- a test, and the refusal that it gives where it holds
pub record Test : Type 0 where
  pub holds : Bool
  pub answer : Answer

infix 70 ◌gives◌
abbrev pub ◌gives◌ : Bool → Refusal → Test
test gives refusal = record { holds = test; answer = Err refusal }

abbrev pub first : List Test → Answer
first [] = Accepted
first (t ∷ ts) = cond t.holds t.answer (first ts)

abbrev pub accepts : Answer → Bool
accepts a = eqb (number_of a) 0

-- a call's tests stand in the order of the nine: each gives a refusal, and none a lower number than the one before it
abbrev pub from : ℕ → List Test → Bool
from k [] = true
from k (t ∷ ts) = leb k (number_of t.answer) && from (number_of t.answer) ts

abbrev pub in_order : List Test → Bool
in_order ts = from 1 ts

-- T-02: the first cause that is set is the one that RESERVED names
abbrev pub reserving : (Cause → Bool) → List Test
reserving is_set = map (λ cause. is_set cause gives Reserved cause) causes

-- what is promised of a cause that is named: it is set, and none before it is
pub record CauseNamed (is_set : Cause → Bool) (answer : Answer) : Type 0 where
  pub cause : Cause
  pub is : answer ≡ Err (Reserved cause)
  pub set : is_set cause ≡ true
  pub none_before : (other : Cause) → cause_number other < cause_number cause → is_set other ≡ false
