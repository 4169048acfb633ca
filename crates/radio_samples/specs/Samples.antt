-- Document 01, "Frame and slots": the samples of a radio frame's payload, for n receivers. Assumes nothing.
use Rattle.std.specs.Prelude.{ℕ, ◌+◌, Bool, cond, ◌&&◌, List, [], ◌∷◌, eqb, leb, ℤ, length, get_or, Option, Some, None}
use Rattle.wire.specs.Lists.{over}
use Rattle.wire.specs.Numbers.{be, signed}
use Rattle.layout.specs.Slots.{counted, slots, values, iq_place, mic_place}
use Rattle.layout.specs.Table.{row_of}
use Rattle.layout.specs.declared.row.Row.{Row}

-- the sample of three bytes, or of two, that begins at a place of p
abbrev pub sample24 : List ℕ → ℕ → ℤ
sample24 p at = signed 24 (be (get_or p at 0 ∷ get_or p (at + 1) 0 ∷ get_or p (at + 2) 0 ∷ []))

abbrev pub sample16 : List ℕ → ℕ → ℤ
sample16 p at = signed 16 (be (get_or p at 0 ∷ get_or p (at + 1) 0 ∷ []))

-- I or Q value k of a payload, in slot order, and its microphone value t
abbrev pub iq_at : ℕ → List ℕ → ℕ → ℤ
iq_at n payload k = sample24 payload (iq_place n k)

abbrev pub mic_at : ℕ → List ℕ → ℕ → ℤ
mic_at n payload t = sample16 payload (mic_place n t)

-- a count of 1 to 8, slices of the lengths iq and mic that hold a frame's samples, and as many bytes as are due
unfoldable pub roomy : ℕ → ℕ → ℕ → ℕ → ℕ → Bool
roomy n iq mic bytes due = counted n && leb (values n) iq && leb (slots n) mic && eqb bytes due

-- the row for which it is so
abbrev pub fit : ℕ → ℕ → ℕ → ℕ → ℕ → Option Row
fit n iq mic bytes due = cond (roomy n iq mic bytes due) (Some (row_of n)) None

-- every sample of a payload at the start of its slice: "A longer slice keeps its remainder." Where they cannot be, both as they were
unfoldable pub samples_read : ℕ → List ℕ → List ℤ → List ℤ → List ℤ × List ℤ
samples_read n payload iq mic =
    cond (roomy n (length iq) (length mic) (length payload) 504)
    (over (values n) (iq_at n payload) iq, over (slots n) (mic_at n payload) mic)
    (iq, mic)
