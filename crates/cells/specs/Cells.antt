-- Records as cells: a number for each field. Assumes nothing.
use Rattle.std.specs.Prelude.{ℕ, ◌+◌, ◌*◌, ◌/◌, ◌%◌, ◌^◌, Bool, true, false, cond, ◌&&◌, List, [], ◌∷◌, ◌≡◌, eqb, leb, ltb, get_or, length, Result, Ok, Err}
use Rattle.std.proofs.lemmas.List.Edits.{sets}
use mir.Val.{bool_byte}
use Rattle.wire.specs.Answers.{Answer, Accepted, number_of, place_of, accepts, told}
use Rattle.wire.specs.declared.Refusal.{Refusal}
use Rattle.wire.specs.declared.Refusal.TheVariants.{BadState}

-- whether the cells can be a record's, by the most that each of its fields holds: none is missing and none holds more
abbrev pub within : List ℕ → List ℕ → Bool
within [] cs = true
within (m ∷ ms) [] = false
within (m ∷ ms) (c ∷ cs) = leb c m && within ms cs

-- a flag is 1 or 0
abbrev pub flag : List ℕ → ℕ → Bool
flag cs i = eqb (get_or cs i 0) 1

abbrev pub cell_of : Bool → ℕ
cell_of b = bool_byte b

-- a number of w bits; a cell within its field's most is that number
abbrev pub number : ℕ → List ℕ → ℕ → ℕ
number w cs i = get_or cs i 0 % 2 ^ w

-- what a call returns: its answer in bits 7 to 0 and, of one that carries a place, that in bits 31 to 16, as `told` has it; and what it
-- found in bits 15 to 8
abbrev pub got : ℕ → ℕ → ℕ
got answer found = answer + 256 * found

-- the same of a call that gives what it found, or its refusal
abbrev pub returned_by : Result ℕ Refusal → ℕ
returned_by (Ok found) = got (told Accepted) found
returned_by (Err refusal) = got (told (Err refusal)) 0

-- the three parts, as a caller takes them from what was returned
abbrev pub answer_in : ℕ → ℕ
answer_in returned = returned % 2 ^ 8

abbrev pub found_in : ℕ → ℕ
found_in returned = returned / 2 ^ 8 % 2 ^ 8

abbrev pub place_in : ℕ → ℕ
place_in returned = returned / 2 ^ 16

-- what was returned tells an answer, its place, and what was found
pub record Tells (returned : ℕ) (answer : Answer) (found : ℕ) : Type 0 where
  pub number : answer_in returned ≡ number_of answer
  pub found_is : found_in returned ≡ found
  pub place : place_in returned ≡ place_of answer

-- the refusal of cells that can be no record
abbrev pub bad_state : ℕ
bad_state = number_of (Err BadState)

-- accepted, a record's fields stand over the first cells; refused, the cells are as they were
abbrev pub kept : Answer → List ℕ → List ℕ → List ℕ
kept answer fields cells = cond (accepts answer) (sets cells 0 fields) cells

-- fields over the cells from a place on, where there are enough of them
unfoldable pub put_over : List ℕ → ℕ → List ℕ → List ℕ
put_over cells place fields = cond (leb (place + length fields) (length cells)) (sets cells place fields) cells

-- what a call that answers a number and writes one slice leaves
pub record Written : Type 0 where
  pub number : ℕ
  pub lent : List ℕ

abbrev pub wrote : ℕ → List ℕ → Written
wrote k lent = record { number = k; lent = lent }

-- fields over the first cells, where there are enough of them
unfoldable pub offered : List ℕ → List ℕ → Written
offered fields cells = cond (ltb (length cells) (length fields)) (wrote bad_state cells) (wrote 0 (sets cells 0 fields))
