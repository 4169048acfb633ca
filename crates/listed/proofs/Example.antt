-- Document 01's example, whole: what is printed for its three lines. Assumes nothing.
use mathlib.Core.Path.{◌≡◌, refl, ap, ◌∙◌}
use mathlib.Core.List.{List, [], ◌∷◌, ◌++◌, map}
use Prim.Native.Nat.{ℕ, ◌+◌}
use Rattle.layout.specs.Slots.{slots, padding}
use Rattle.radio_status.specs.Words.{applied}
use Rattle.radio.specs.Read.{answer_of, read_of}
use Rattle.hexline.specs.Lines.{Content, content_of, lines, numbered}
use Rattle.text.specs.Numbers.{groups_in, decimal_of}
use Rattle.hexline.specs.Printed.{text_of}
use Rattle.hexline.proofs.Example.{text, frame_from, three-lines}
use Rattle.listed.specs.Rows.{reading_of, row_text, rows_of, listing_of}

-- the rows of lines of given contents, numbered from n on
abbrev rows_from : ℕ → List Content → List ℕ
rows_from n [] = []
rows_from n (c ∷ cs) = row_text n c ++ rows_from (n + 1) cs

by_content : (n : ℕ) (ls : List (List ℕ)) → rows_of (numbered n ls) ≡ rows_from n (map content_of ls)
by_content n [] = refl
by_content n (line ∷ rest) = ap (λ rows. row_text n (content_of line) ++ rows) (by_content (n + 1) rest)

pub three_rows : listing_of text
    ≡ (0x31 ∷ 0x20 ∷ 0x30 ∷ 0x20 ∷ 0x31 ∷ 0x20 ∷ 0x31 ∷ 0x20 ∷ 0x30 ∷ 0x20 ∷ 0x30 ∷ 0x0a
    ∷ 0x32 ∷ 0x20 ∷ 0x36 ∷ 0x20 ∷ 0x2d ∷ 0x20 ∷ 0x2d ∷ 0x20 ∷ 0x2d ∷ 0x20 ∷ 0x2d ∷ 0x0a
    ∷ 0x33 ∷ 0x20 ∷ 0x33 ∷ 0x20 ∷ 0x2d ∷ 0x20 ∷ 0x2d ∷ 0x20 ∷ 0x2d ∷ 0x20 ∷ 0x2d ∷ 0x0a
    ∷ [])
unfolding row_text reading_of read_of answer_of slots padding applied text_of decimal_of groups_in frame_from
three_rows = by_content 1 (lines text) ∙ ap (rows_from 1) three-lines
