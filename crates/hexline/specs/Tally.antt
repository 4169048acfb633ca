-- The line that closes a reading of a stream: how many frames it handed out, and how many bytes it skipped and holds. Assumes nothing.
use Rattle.std.specs.Prelude.{ℕ, cond, List, [], ◌∷◌, ◌++◌, ltb, length}
use Rattle.text.specs.Numbers.{decimal_of}
use Rattle.text.specs.Put.{Written, gave, written}
use Rattle.hexline.specs.Printed.{ended}

-- "frames: handed out "
abbrev pub handed_label : List ℕ
handed_label = 0x66 ∷ 0x72 ∷ 0x61 ∷ 0x6d ∷ 0x65 ∷ 0x73 ∷ 0x3a ∷ 0x20 ∷ 0x68 ∷ 0x61 ∷ 0x6e ∷ 0x64 ∷ 0x65 ∷ 0x64 ∷ 0x20 ∷ 0x6f ∷ 0x75 ∷ 0x74 ∷ 0x20 ∷ []

-- ", bytes skipped "
abbrev pub skipped_label : List ℕ
skipped_label = 0x2c ∷ 0x20 ∷ 0x62 ∷ 0x79 ∷ 0x74 ∷ 0x65 ∷ 0x73 ∷ 0x20 ∷ 0x73 ∷ 0x6b ∷ 0x69 ∷ 0x70 ∷ 0x70 ∷ 0x65 ∷ 0x64 ∷ 0x20 ∷ []

-- ", bytes held "
abbrev pub held_label : List ℕ
held_label = 0x2c ∷ 0x20 ∷ 0x62 ∷ 0x79 ∷ 0x74 ∷ 0x65 ∷ 0x73 ∷ 0x20 ∷ 0x68 ∷ 0x65 ∷ 0x6c ∷ 0x64 ∷ 0x20 ∷ []

-- a label, and a number in decimal
abbrev pub labelled_of : List ℕ → ℕ → List ℕ
labelled_of label n = label ++ decimal_of n

unfoldable pub tally_text : ℕ → ℕ → ℕ → List ℕ
tally_text frames skipped held = ended (labelled_of handed_label frames ++ labelled_of skipped_label skipped ++ labelled_of held_label held)

unfoldable pub tally_of : ℕ → ℕ → ℕ → List ℕ → Written
tally_of frames skipped held out = cond (ltb (length out) 128) (gave 0 out) (written (tally_text frames skipped held) out)
