-- Document 01's example of the listing, lines that look like frames and are none, and a closing line, by the definitions alone. Assumes
-- nothing.
use mathlib.Core.Path.{◌≡◌, refl, ap, ◌∙◌}
use mathlib.Core.Bool.{true, false}
use mathlib.Core.List.{List, [], ◌∷◌, ◌++◌, map}
use Prim.Native.Nat.{ℕ}
use lib.ListN.{replicate}
use Rattle.std.specs.Prelude.{Err}
use Rattle.wire.specs.Answers.{Accepted}
use Rattle.wire.specs.declared.Refusal.TheVariants.{Length, NoSync}
use Rattle.hexline.proofs.Split.{unbroken, line_first}
use Rattle.hexline.specs.Lines.{Content, a_frame, no_frame, lines, content_of, newline}
use Rattle.text.specs.Numbers.{groups_in, decimal_of}
use Rattle.hexline.specs.Printed.{text_of}
use Rattle.hexline.specs.Tally.{tally_text}

-- the digits `7f7f7f0c01f40000`, of which line 2 differs in the second, and 1,008 zeros
abbrev start : ℕ → List ℕ
start second = 0x37 ∷ second ∷ 0x37 ∷ 0x66 ∷ 0x37 ∷ 0x66 ∷ 0x30 ∷ 0x63 ∷ 0x30 ∷ 0x31 ∷ 0x66 ∷ 0x34 ∷ 0x30 ∷ 0x30 ∷ 0x30 ∷ 0x30 ∷ []

abbrev zeros : ℕ → List ℕ
zeros n = replicate n 0x30

pub line1 : List ℕ
line1 = start 0x66 ++ zeros 1008

pub line2 : List ℕ
line2 = start 0x65 ++ zeros 1008

-- the three lines, each ended by a newline; the third is empty
pub text : List ℕ
text = line1 ++ (newline ∷ line2 ++ (newline ∷ newline ∷ []))

unfoldable pub frame_from : ℕ → Content
frame_from first = a_frame ((first ∷ 0x7f ∷ 0x7f ∷ 0x0c ∷ 0x01 ∷ 0xf4 ∷ 0 ∷ 0 ∷ []) ++ replicate 504 0)

whole1 : unbroken line1 ≡ true
unfolding line1
whole1 = refl

whole2 : unbroken line2 ≡ true
unfolding line2
whole2 = refl

split : lines text ≡ line1 ∷ line2 ∷ [] ∷ []
unfolding text
split = line_first line1 (line2 ++ (newline ∷ newline ∷ [])) whole1 ∙ ap (λ l. line1 ∷ l) (line_first line2 (newline ∷ []) whole2)

pub three-lines : map content_of (lines text) ≡ frame_from 0x7f ∷ frame_from 0x7e ∷ no_frame ∷ []
unfolding line1 line2 frame_from
three-lines = ap (map content_of) split

-- "1 0 1 1 0 0", "2 6 - - - -", "3 3 - - - -": of a refusal its number alone
pub three_rows : (byte : ℕ) → text_of 1 Accepted 1 true false false ∷ text_of 2 (Err (NoSync byte)) 0 false false false ∷ text_of 3 (Err Length) 0 false false false ∷ []
    ≡ (0x31 ∷ 0x20 ∷ 0x30 ∷ 0x20 ∷ 0x31 ∷ 0x20 ∷ 0x31 ∷ 0x20 ∷ 0x30 ∷ 0x20 ∷ 0x30 ∷ 0x0a ∷ [])
    ∷ (0x32 ∷ 0x20 ∷ 0x36 ∷ 0x20 ∷ 0x2d ∷ 0x20 ∷ 0x2d ∷ 0x20 ∷ 0x2d ∷ 0x20 ∷ 0x2d ∷ 0x0a ∷ [])
    ∷ (0x33 ∷ 0x20 ∷ 0x33 ∷ 0x20 ∷ 0x2d ∷ 0x20 ∷ 0x2d ∷ 0x20 ∷ 0x2d ∷ 0x20 ∷ 0x2d ∷ 0x0a ∷ [])
    ∷ []
unfolding groups_in decimal_of text_of
three_rows byte = refl

-- 1,023 digits, 1,025, an `F` among them, and a carriage return after them
pub near_misses : map content_of (zeros 1023 ∷ zeros 1025 ∷ (0x46 ∷ zeros 1023) ∷ (zeros 1024 ++ (0x0d ∷ [])) ∷ []) ≡ no_frame ∷ no_frame ∷ no_frame ∷ no_frame ∷ []
near_misses = refl

-- "frames: handed out 10, bytes skipped 506, bytes held 512"
pub closing_line : tally_text 10 506 512
    ≡ (0x66 ∷ 0x72 ∷ 0x61 ∷ 0x6d ∷ 0x65 ∷ 0x73 ∷ 0x3a ∷ 0x20 ∷ 0x68 ∷ 0x61 ∷ 0x6e ∷ 0x64 ∷ 0x65 ∷ 0x64 ∷ 0x20 ∷ 0x6f ∷ 0x75 ∷ 0x74 ∷ 0x20 ∷ 0x31 ∷ 0x30
    ∷ 0x2c ∷ 0x20 ∷ 0x62 ∷ 0x79 ∷ 0x74 ∷ 0x65 ∷ 0x73 ∷ 0x20 ∷ 0x73 ∷ 0x6b ∷ 0x69 ∷ 0x70 ∷ 0x70 ∷ 0x65 ∷ 0x64 ∷ 0x20 ∷ 0x35 ∷ 0x30 ∷ 0x36
    ∷ 0x2c ∷ 0x20 ∷ 0x62 ∷ 0x79 ∷ 0x74 ∷ 0x65 ∷ 0x73 ∷ 0x20 ∷ 0x68 ∷ 0x65 ∷ 0x6c ∷ 0x64 ∷ 0x20 ∷ 0x35 ∷ 0x31 ∷ 0x32 ∷ 0x0a
    ∷ [])
unfolding groups_in decimal_of tally_text
closing_line = refl
