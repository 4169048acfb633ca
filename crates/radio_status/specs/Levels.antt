-- T-08: "The protocol says that all analog levels are 12 bits". The reading of a level, and what of a word it refuses. Assumes nothing.
use Rattle.std.specs.Prelude.{ℕ, ◌≤◌, Bool, false, cond, not, ◌&&◌, List, [], ◌∷◌, eqb, Option, None, Some, Result, Ok, Err}
use Rattle.wire.specs.Answers.{Answer, Test, ◌gives◌, first, reserving}
use Rattle.wire.specs.Fields.{bits}
use Rattle.wire.specs.Numbers.{be}
use Rattle.wire.specs.declared.Refusal.{Refusal}
use Rattle.wire.specs.declared.Refusal.TheVariants.{Reserved}
use Rattle.wire.specs.declared.Cause.{Cause}
use Rattle.wire.specs.declared.Cause.TheVariants.{Source10, Relay, Word9C4Bit7, Word10C1Bit7, Ain5, Ain1, Ain2, Ain3, Ain4, Ain6}
use Rattle.radio_status.specs.declared.levels.TwoLevels.{TwoLevels}

-- the number in a level's two bytes
abbrev pub level : ℕ → ℕ → ℕ
level high low = be (high ∷ low ∷ [])

-- "a level's top four bits aren't all 0": they are those of its first byte
abbrev pub top_bits : ℕ → ℕ
top_bits high = bits high 7 4

abbrev pub top_set : ℕ → Bool
top_set high = not (eqb (top_bits high) 0)

-- "The reading of a level shall promise a number up to 4,095 or refuse"
abbrev pub level_of : ℕ → ℕ → Option ℕ
level_of high low = cond (top_set high) None (Some (level high low))

abbrev pub UpTo4095 : Option ℕ → Type 0
UpTo4095 (Some n) = n ≤ 4095
UpTo4095 None = Unit {0}

-- which levels of the word with an address are above 4,095. Words 0, 4 and unlisted ones have none that could be, and no radio word has a
-- host's code.
abbrev pub is_above : ℕ → ℕ → ℕ → Cause → Bool
is_above at c1 c3 Source10 = false
is_above at c1 c3 Relay = false
is_above at c1 c3 Word9C4Bit7 = false
is_above at c1 c3 Word10C1Bit7 = false
is_above at c1 c3 Ain5 = eqb at 1 && top_set c1
is_above at c1 c3 Ain1 = eqb at 1 && top_set c3
is_above at c1 c3 Ain2 = eqb at 2 && top_set c1
is_above at c1 c3 Ain3 = eqb at 2 && top_set c3
is_above at c1 c3 Ain4 = eqb at 3 && top_set c1
is_above at c1 c3 Ain6 = eqb at 3 && top_set c3

-- "RESERVED on reading if a level's top four bits aren't all 0, the first such level in C1 to C4 order being named"
abbrev pub level_tests : ℕ → ℕ → ℕ → List Test
level_tests at c1 c3 = reserving (is_above at c1 c3)

-- the numbers in C1C2 and C3C4, or the refusal of a level among them
abbrev pub in_pairs : ℕ → ℕ → ℕ → ℕ → TwoLevels
in_pairs c1 c2 c3 c4 = record { c1c2 = level c1 c2; c3c4 = level c3 c4 }

abbrev pub both_or : Answer → TwoLevels → Result TwoLevels Refusal
both_or (Ok _) two = Ok two
both_or (Err refusal) two = Err refusal

-- where both are levels, by the causes that name them; and of the word with an address
abbrev pub two_levels : ℕ → ℕ → ℕ → ℕ → Cause → Cause → Result TwoLevels Refusal
two_levels c1 c2 c3 c4 in_c1 in_c3 =
    both_or (first (top_set c1 gives Reserved in_c1 ∷ top_set c3 gives Reserved in_c3 ∷ [])) (in_pairs c1 c2 c3 c4)

abbrev pub levels_at : ℕ → ℕ → ℕ → ℕ → ℕ → Result TwoLevels Refusal
levels_at at c1 c2 c3 c4 = both_or (first (level_tests at c1 c3)) (in_pairs c1 c2 c3 c4)
