-- Document 01, "The listing program": the row that is printed for a line. Assumes nothing.
use Rattle.std.specs.Prelude.{ℕ, Bool, false, cond, Result, Ok, Err, List, [], ◌∷◌, ◌++◌, eqb, ltb, length}
use Rattle.hexline.specs.Lines.{newline}
use Rattle.wire.specs.Answers.{Answer, Accepted, number_of}
use Rattle.wire.specs.Fields.{flag}
use Rattle.wire.specs.declared.Refusal.{Refusal}
use Rattle.text.specs.Numbers.{decimal_of}
use Rattle.text.specs.Put.{Written, gave, written}
use Rattle.hexline.specs.declared.print.Columns.{Columns}

abbrev pub space : ℕ
space = 0x20

abbrev pub hyphen : List ℕ
hyphen = 0x2d ∷ []

-- "one space between"
abbrev pub spaced : List (List ℕ) → List ℕ
spaced [] = []
spaced (w ∷ []) = w
spaced (w ∷ v ∷ ws) = w ++ (space ∷ spaced (v ∷ ws))

abbrev pub accepted_columns : ℕ → Bool → Bool → Bool → List (List ℕ)
accepted_columns address dot dash ptt = decimal_of address ∷ decimal_of (flag dot) ∷ decimal_of (flag dash) ∷ decimal_of (flag ptt) ∷ []

abbrev pub refused_columns : List (List ℕ)
refused_columns = hyphen ∷ hyphen ∷ hyphen ∷ hyphen ∷ []

-- "line number from 1, answer, address, DOT, DASH, PTT (1 on, 0 off)", "with `-` for the last four on a refusal"
abbrev pub columns : ℕ → Answer → ℕ → Bool → Bool → Bool → List (List ℕ)
columns number answer address dot dash ptt =
    decimal_of number ∷ decimal_of (number_of answer) ∷ cond (eqb (number_of answer) 0) (accepted_columns address dot dash ptt) refused_columns

abbrev pub ended : List ℕ → List ℕ
ended text = text ++ (newline ∷ [])

unfoldable pub text_of : ℕ → Answer → ℕ → Bool → Bool → Bool → List ℕ
text_of number answer address dot dash ptt = ended (spaced (columns number answer address dot dash ptt))

unfoldable pub row_of : ℕ → Answer → ℕ → Bool → Bool → Bool → List ℕ → Written
row_of number answer address dot dash ptt out = cond (ltb (length out) 64) (gave 0 out) (written (text_of number answer address dot dash ptt) out)

-- the row for what the reading of a line gave: what is shown of it, or its refusal
abbrev pub row_for : ℕ → Result Columns Refusal → List ℕ → Written
row_for number (Ok c) out = row_of number Accepted c.address c.dot c.dash c.ptt out
row_for number (Err e) out = row_of number (Err e) 0 false false false out
