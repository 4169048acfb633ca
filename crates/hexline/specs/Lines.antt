-- Document 01, "The listing program": the lines of a text, and what each one is. Assumes nothing.
use Rattle.std.specs.Prelude.{ℕ, ◌+◌, Bool, cond, ◌&&◌, List, [], ◌∷◌, ◌++◌, eqb, length}
use Rattle.hexline.specs.Digits.{all_digits, bytes_of_digits}

abbrev pub newline : ℕ
newline = 0x0a

-- "a last line without a newline counts if it is not empty"
abbrev pub last_line : List ℕ → List (List ℕ)
last_line [] = []
last_line (a ∷ line) = (a ∷ line) ∷ []

-- A text is split at each newline; `line` is what stands before the text since the last one. Every other byte, a carriage return too, is
-- a byte of its line.
abbrev pub lines_from : List ℕ → List ℕ → List (List ℕ)
lines_from line [] = last_line line
lines_from line (b ∷ text) = cond (eqb b newline) (line ∷ lines_from [] text) (lines_from (line ++ (b ∷ [])) text)

abbrev pub lines : List ℕ → List (List ℕ)
lines text = lines_from [] text

-- what a line is: a frame, with its bytes, or a line that is answered 3
pub data Content : Type 0 where
  a_frame : List ℕ → Content
  no_frame : Content

abbrev pub is_frame : List ℕ → Bool
is_frame line = all_digits line && eqb (length line) 1024

-- "A line that is not exactly 1,024 such digits is answered 3"
abbrev pub content_of : List ℕ → Content
content_of line = cond (is_frame line) (a_frame (bytes_of_digits line)) no_frame

-- a line of the text, with its number
pub record Found : Type 0 where
  pub number : ℕ
  pub content : Content

-- lines numbered from a number on
abbrev pub numbered : ℕ → List (List ℕ) → List Found
numbered n [] = []
numbered n (line ∷ rest) = record { number = n; content = content_of line } ∷ numbered (n + 1) rest
