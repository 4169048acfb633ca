-- The stream record as two slices, four counts and the 514 bytes that may be held. Assumes nothing.
use Rattle.std.specs.Prelude.{ℕ, Bool, cond, ◌&&◌, List, [], ◌∷◌, leb, length, get_or, take}
use Rattle.std.proofs.lemmas.List.Edits.{sets}
use Rattle.stream.specs.Record.{fresh_of}
use Rattle.stream.specs.declared.Stream.{Stream}

-- whether there are cells for a record; each of them can hold any number of its type
abbrev pub lent : List ℕ → List ℕ → Bool
lent counts held = leb 4 (length counts) && leb 514 (length held)

abbrev pub stream_of : List ℕ → List ℕ → Stream
stream_of counts held =
    record { held = take 514 held; count = get_or counts 0 0; frames = get_or counts 1 0; skipped = get_or counts 2 0; total = get_or counts 3 0 }

abbrev pub counts_of : Stream → List ℕ
counts_of s = s.count ∷ s.frames ∷ s.skipped ∷ s.total ∷ []

-- the record that the first cells are; too few of them give a fresh one
unfoldable pub stream_in : List ℕ → List ℕ → Stream
stream_in counts held = cond (lent counts held) (stream_of counts held) fresh_of

-- a record over the first cells of both slices, where there are enough of them
unfoldable pub put_in : Stream → List ℕ → List ℕ → List ℕ × List ℕ
put_in s counts held = cond (lent counts held) (sets counts 0 (counts_of s), sets held 0 s.held) (counts, held)
