-- How rows gather in the output buffer and are written: `count` bytes at the start of `out` are rows that wait. Assumes nothing.
use Rattle.std.specs.Prelude.{ℕ, ◌+◌, ◌≤◌, cond, List, [], ◌∷◌, ◌++◌, ltb, length, take}
use Rattle.hexline.specs.Lines.{Found}
use Rattle.text.specs.Put.{Written, gave}
use Rattle.listed.specs.Rows.{row_text, printed_at}

-- there is room for another row
abbrev pub Room : Written → Type 0
Room b = b.count + 64 ≤ length b.out

abbrev pub waiting_in : Written → List ℕ
waiting_in b = take b.count b.out

-- a row goes after those that wait
abbrev pub with_row : Found → Written → Written
with_row f b = printed_at b.count (row_text f.number f.content) b.out

-- where there is no room for another row, those that wait are written, and wait no more
abbrev pub settled : Written → Written
settled b = cond (ltb (length b.out) (b.count + 64)) (gave 0 b.out) b

abbrev pub written_of : Written → List ℕ
written_of b = cond (ltb (length b.out) (b.count + 64)) (waiting_in b) []

-- the buffer after the rows of some lines, and all that was written meanwhile
unfoldable pub buffer_after : List Found → Written → Written
buffer_after [] b = b
buffer_after (f ∷ fs) b = buffer_after fs (settled (with_row f b))

unfoldable pub written_by : List Found → Written → List ℕ
written_by [] b = []
written_by (f ∷ fs) b = written_of (with_row f b) ++ written_by fs (settled (with_row f b))
