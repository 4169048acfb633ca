-- How a text is cut into chunks makes no difference to what is found in it: reading x and then y is reading x ++ y, from any reader; so
-- any chunks are read as the text that they are cut from. Assumes nothing.
use mathlib.Core.Path.{◌≡◌, refl, sym, ap, ◌∙◌}
use mathlib.Core.List.{List, [], ◌∷◌, ◌++◌, flatten}
use Prim.Native.Nat.{ℕ}
use Rattle.hexline.proofs.Bytewise.{each, chunk-each, each-cut}
use Rattle.hexline.specs.Text.{Run, after, chunk_in, chunk_of, chunks_of}
use Rattle.hexline.specs.declared.Reader.{Reader}

-- a run, and the bytes that come after it
abbrev pub onward : Run → List ℕ → Run
onward run y = after run.found (chunk_of run.reader y)

-- x and then y
pub cut : (r : Reader) (x y : List ℕ) → chunk_of r (x ++ y) ≡ onward (chunk_of r x) y
cut r x y = chunk-each r (x ++ y) ∙ each-cut r x y ∙ sym (rw (chunk-each r x, chunk-each (each r x).reader y))

-- any list of chunks
pub any_chunks : (r : Reader) (chunks : List (List ℕ)) → chunks_of r chunks ≡ chunk_of r (flatten chunks)
unfolding flatten chunk_in
any_chunks r [] = refl
any_chunks r (chunk ∷ rest) = ap (after (chunk_of r chunk).found) (any_chunks (chunk_of r chunk).reader rest) ∙ sym (cut r chunk (flatten rest))
