-- The three equations that say what the lines of a text are, whatever way they are found. Assumes nothing.
use mathlib.Core.Path.{◌≡◌, refl, sym, ap, ◌∙◌}
use mathlib.Core.Bool.{Bool, true, not, ◌&&◌}
use mathlib.Core.List.{List, [], ◌∷◌, ◌++◌, append-nil}
use Prim.Native.Nat.{ℕ}
use borrow.Author.Tests.{not-true}
use lib.Dec.{eqb}
use lib.Seq.{append_snoc}
use Rattle.wire.proofs.Cases.{both_true}
use Rattle.hexline.specs.Lines.{newline, lines_from, lines}

-- no byte of a list is a newline
abbrev pub unbroken : List ℕ → Bool
unbroken [] = true
unbroken (b ∷ s) = not (eqb b newline) && unbroken s

-- an empty text has no line
pub no_lines : lines [] ≡ []
no_lines = refl

unbroken-on : (line s rest : List ℕ) → unbroken s ≡ true → lines_from line (s ++ rest) ≡ lines_from (line ++ s) rest
unbroken-on line [] rest u = ap (λ l. lines_from l rest) (sym (append-nil line))
unbroken-on line (b ∷ s) rest u =
    let parts = both_true (not (eqb b newline)) (unbroken s) u in
    rw (not-true (eqb b newline) parts.0) (unbroken-on (line ++ (b ∷ [])) s rest parts.1 ∙ ap (λ l. lines_from l rest) (append_snoc line b s))

-- what stands before the first newline is a line, and the lines of what follows come after it
pub line_first : (s rest : List ℕ) → unbroken s ≡ true → lines (s ++ (newline ∷ rest)) ≡ s ∷ lines rest
line_first s rest u = unbroken-on [] s (newline ∷ rest) u

-- what has no newline is one line, if it is not empty
pub line_last : (b : ℕ) (s : List ℕ) → unbroken (b ∷ s) ≡ true → lines (b ∷ s) ≡ (b ∷ s) ∷ []
line_last b s u = ap (lines_from []) (sym (append-nil (b ∷ s))) ∙ unbroken-on [] (b ∷ s) [] u
