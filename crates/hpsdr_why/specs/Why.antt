-- The reason of a place through the door: the answer, the reason's number and what it carries as one number. Assumes nothing.
use Rattle.std.specs.Prelude.{ℕ, ◌+◌, ◌*◌, ◌/◌, ◌%◌, ◌^◌, cond, ◌≡◌, List, eqb}
use Rattle.wire.specs.Answers.{told}
use Rattle.cells.specs.Cells.{got, found_in, Tells}
use Rattle.why.specs.Why.{Why, why_of}
use Rattle.why.specs.declared.Reason.{Reason}
use Rattle.why.specs.declared.Reason.TheVariants.{NotGiven, Inside, Near, Far, Held}

-- a reason's number, and what it carries: a frame's start, or a sync's byte; 0 where it carries nothing
abbrev pub number_and_carried : Reason → ℕ × ℕ
number_and_carried NotGiven = (0, 0)
number_and_carried (Inside start) = (1, start)
number_and_carried (Near byte) = (2, byte)
number_and_carried (Far byte) = (3, byte)
number_and_carried Held = (4, 0)

abbrev pub number_of : Reason → ℕ
number_of r = (number_and_carried r).0

abbrev pub carried_by : Reason → ℕ
carried_by r = (number_and_carried r).1

-- what is returned: in bits 31 to 0 what every other call returns, the reason's number being what was found; what it carries in bits 63 to 32
abbrev pub returned_of : Why → ℕ
returned_of w = got (told w.answer) (number_of w.reason) + 2 ^ 32 * carried_by w.reason

unfoldable pub why_byte_of : List ℕ → ℕ → ℕ
why_byte_of input place = returned_of (why_of input place)

-- the parts, as a caller takes them from what was returned
abbrev pub lower_in : ℕ → ℕ
lower_in returned = returned % 2 ^ 32

abbrev pub carried_in : ℕ → ℕ
carried_in returned = returned / 2 ^ 32

-- the reason that a number stands for, with what it carries
abbrev pub reason_from : ℕ → ℕ → Reason
reason_from number carried =
    cond (eqb number 1) (Inside carried) (cond (eqb number 2) (Near carried) (cond (eqb number 3) (Far carried) (cond (eqb number 4) Held NotGiven)))

-- what was returned tells the answer and the reason
pub record TellsWhy (returned : ℕ) (w : Why) : Type 0 where
  pub lower : Tells (lower_in returned) w.answer (number_of w.reason)
  pub reason_is : reason_from (found_in (lower_in returned)) (carried_in returned) ≡ w.reason
