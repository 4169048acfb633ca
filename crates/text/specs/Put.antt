-- A text put into a lent slice. Assumes nothing.
use Rattle.std.specs.Prelude.{ℕ, ◌+◌, ◌≡◌, cond, List, [], ◌∷◌, ◌++◌, ltb, length, drop, set}
use Rattle.std.proofs.lemmas.List.Edits.{sets}
use Rattle.text.specs.declared.Writer.{Writer}

-- how many bytes of a slice are written, and the slice afterwards
pub record Written : Type 0 where
  pub count : ℕ
  pub out : List ℕ

abbrev pub gave : ℕ → List ℕ → Written
gave count out = record { count = count; out = out }

-- the text at the start of a slice, which keeps its remainder
abbrev pub written : List ℕ → List ℕ → Written
written text out = gave (length text) (text ++ drop (length text) out)

-- the text from a place on, byte after byte for as long as there is room
unfoldable pub put_of : List ℕ → ℕ → List ℕ → Written
put_of out at [] = gave at out
put_of out at (b ∷ text) = cond (ltb at (length out)) (put_of (set out at b) (at + 1) text) (gave at out)

-- the whole text stands there, and `next` is the place after it
pub record Put (out : List ℕ) (at : ℕ) (text : List ℕ) (next : ℕ) (after : List ℕ) : Type 0 where
  pub place : next ≡ at + length text
  pub stored : after ≡ sets out at text

-- a writer after a text: the slice that it holds is the same one, and the text is put there from its place on
pub record Puts (before after : Writer) (text : List ℕ) : Type 0 where
  pub same : after.out.ghost_name ≡ before.out.ghost_name
  pub put : gave after.at after.out.now ≡ put_of before.out.now before.at text
