-- The plain reader through the door: its answer and its counts as one number. Assumes nothing.
use Rattle.std.specs.Prelude.{ℕ, ◌+◌, ◌*◌, ◌/◌, ◌%◌, ◌^◌, ◌≡◌, List}
use Rattle.wire.specs.Answers.{Answer, told}
use Rattle.cells.specs.Cells.{got, Tells, Written, wrote}
use Rattle.plain.specs.Plain.{Outcome, plain_of}

-- what is returned: in bits 31 to 0 what every other call returns, the number of frames being what was found; the bytes skipped in bits 47 to
-- 32; the bytes left in bits 63 to 48
abbrev pub returned_of : Answer → ℕ → ℕ → ℕ → ℕ
returned_of answer frames skipped left = got (told answer) frames + 2 ^ 32 * skipped + 2 ^ 48 * left

abbrev pub shown : Outcome → Written
shown o = wrote (returned_of o.answer o.frames o.skipped o.left) o.output

unfoldable pub plain_read_of : List ℕ → List ℕ → Written
plain_read_of input output = shown (plain_of input output)

-- the parts, as a caller takes them from what was returned
abbrev pub lower_in : ℕ → ℕ
lower_in returned = returned % 2 ^ 32

abbrev pub skipped_in : ℕ → ℕ
skipped_in returned = returned / 2 ^ 32 % 2 ^ 16

abbrev pub left_in : ℕ → ℕ
left_in returned = returned / 2 ^ 48

-- what was returned tells the outcome's answer and its counts
pub record TellsAll (returned : ℕ) (o : Outcome) : Type 0 where
  pub lower : Tells (lower_in returned) o.answer o.frames
  pub skipped_is : skipped_in returned ≡ o.skipped
  pub left_is : left_in returned ≡ o.left
