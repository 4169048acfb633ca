-- T-05: the bytes around a place, a line for each window. Assumes nothing.
use Rattle.std.specs.Prelude.{ℕ, ◌+◌, ◌-◌, Bool, cond, ◌&&◌, ◌||◌, List, [], ◌∷◌, ◌++◌, eqb, leb, ltb, length, get_or}
use Rattle.wire.specs.Lists.{tabs}
use Rattle.text.specs.Numbers.{hex_of}
use Rattle.why.specs.declared.Reason.{Reason}
use Rattle.why.specs.declared.Reason.TheVariants.{NotGiven, Inside, Near, Far, Held}
use Rattle.sentences.specs.Parts.{labelled_of}
use Rattle.explained.specs.declared.window.Tested.{Tested}

abbrev pub testing : ℕ → ℕ → ℕ → Tested
testing from near far = record { from = from; near = near; far = far }

-- the bytes that the test looked at: so many from a place on, and so many from 512 later on
unfoldable pub tested_of : ℕ → Reason → Tested
tested_of place NotGiven = testing place 0 0
tested_of place (Inside q) = testing q 3 3
tested_of place (Near byte) = testing place (byte + 1) 0
tested_of place (Far byte) = testing place 3 (byte + 1)
tested_of place Held = testing place 0 0

-- the byte `ahead` of the first is one of them
abbrev pub marked_ahead : Tested → ℕ → Bool
marked_ahead t ahead = ltb ahead t.near || (leb 512 ahead && ltb (ahead - 512) t.far)

abbrev pub marked_of : Tested → ℕ → Bool
marked_of t p = leb t.from p && marked_ahead t (p - t.from)

-- "[33]" for a byte that was tested, " 33 " for any other
abbrev pub around_of : ℕ → ℕ → ℕ → List ℕ
around_of left value right = (left ∷ []) ++ hex_of value ++ (right ∷ [])

unfoldable pub cell_of : Bool → ℕ → List ℕ
cell_of marked value = cond marked (around_of 0x5b value 0x5d) (around_of 0x20 value 0x20)

unfoldable pub cells_of : List ℕ → Tested → ℕ → ℕ → List ℕ
cells_of input t from n = tabs n (λ i. cell_of (marked_of t (from + i)) (get_or input (from + i) 0))

-- "from byte "
abbrev pub from_byte : List ℕ
from_byte = 0x66 ∷ 0x72 ∷ 0x6f ∷ 0x6d ∷ 0x20 ∷ 0x62 ∷ 0x79 ∷ 0x74 ∷ 0x65 ∷ 0x20 ∷ []

-- "from byte 2,094:", and the bytes
unfoldable pub row_of : List ℕ → Tested → ℕ → ℕ → List ℕ
row_of input t from n = labelled_of from_byte from ++ (0x3a ∷ []) ++ cells_of input t from n ++ (0x0a ∷ [])

-- how many bytes a window around a place has: from 6 before it to 9 after it, as far as there are any
abbrev pub window_bytes : ℕ → ℕ → ℕ
window_bytes long centre = cond (ltb long (centre + 10)) long (centre + 10) - (centre - 6)

unfoldable pub window_of : List ℕ → Tested → ℕ → List ℕ
window_of input t centre = row_of input t (centre - 6) (window_bytes (length input) centre)

-- around the frame's first byte, unless the place is that one, and 512 later
unfoldable pub frame_windows : List ℕ → Tested → ℕ → ℕ → List ℕ
frame_windows input t place q = cond (eqb q place) [] (window_of input t q) ++ window_of input t (q + 512)

-- around the other places that were tested
abbrev pub other_windows : List ℕ → Tested → ℕ → Reason → List ℕ
other_windows input t place NotGiven = []
other_windows input t place (Inside q) = frame_windows input t place q
other_windows input t place (Near byte) = []
other_windows input t place (Far byte) = window_of input t (place + 512)
other_windows input t place Held = []

-- around the place, and then those
unfoldable pub windows_of : List ℕ → ℕ → Reason → List ℕ
windows_of input place reason = window_of input (tested_of place reason) place ++ other_windows input (tested_of place reason) place reason
