-- Document 01, "Frame and slots": a host payload is 63 slots of L, R, I, Q, 2 bytes each; with T-03, which swaps I and Q. Assumes nothing.
use Rattle.std.specs.Prelude.{ℕ, ◌+◌, ◌*◌, ◌/◌, ◌%◌, Bool, cond, ◌&&◌, List, [], ◌∷◌, eqb, leb, ℤ, pos, length, get_or, drop}
use Rattle.wire.specs.Lists.{over, tabs}
use Rattle.wire.specs.Numbers.{be, signed, bytes_of, unsigned}
use Rattle.wire.specs.Choice.{four}

-- The pair of bytes, of the four drawn as L, R, I, Q, in which each of the caller's L, R, I, Q stands; and which of them stands in a pair, since
-- twice is none. T-03: "The builder now puts the caller's I in the bytes drawn as Q, and its Q in those drawn as I; the host reader swaps back."
abbrev pub pair_of : ℕ → ℕ
pair_of = four 0 1 3 2

-- the same over the whole payload
abbrev pub standing : ℕ → ℕ
standing k = k / 4 * 4 + pair_of (k % 4)

-- the signed number in pair m of some bytes
abbrev pub pair : List ℕ → ℕ → ℤ
pair bytes m = signed 16 (be (get_or bytes (m * 2) 0 ∷ get_or bytes (m * 2 + 1) 0 ∷ []))

-- number j of a slot, and number k of a payload
abbrev pub slot_number : List ℕ → ℕ → ℤ
slot_number slot j = pair slot (pair_of j)

abbrev pub number : List ℕ → ℕ → ℤ
number payload k = pair payload (standing k)

-- "the part of the frame from byte 8"
abbrev pub payload_of : List ℕ → List ℕ
payload_of f = drop 8 f

-- "the 252 signed 16-bit numbers stand first in one slice", which keeps its remainder
unfoldable pub numbers : List ℕ → List ℤ → List ℤ
numbers payload audio = over 252 (number payload) audio

-- The way back: the bytes of a number, those of the first n numbers of some slots, and those of a slice's first 252.
abbrev pub pair_bytes : ℤ → List ℕ
pair_bytes x = bytes_of 2 (unsigned 16 x)

unfoldable pub pairs_from : ℕ → List ℤ → List ℕ
pairs_from n audio = tabs n (λ m. pair_bytes (get_or audio (standing m) (pos 0)))

unfoldable pub payload_from : List ℤ → List ℕ
payload_from audio = pairs_from 252 audio

-- "504 bytes of payload", and a slice with room for "the 252 signed 16-bit numbers"
unfoldable pub whole : ℕ → ℕ → Bool
whole bytes numbers = eqb bytes 504 && leb 252 numbers

-- both ways; where it is not so, the lent slice is as it was
unfoldable pub slots_read : List ℕ → List ℤ → List ℤ
slots_read payload audio = cond (whole (length payload) (length audio)) (numbers payload audio) audio

unfoldable pub numbers_written : List ℤ → List ℕ → List ℕ
numbers_written audio payload = cond (whole (length payload) (length audio)) (payload_from audio) payload
