-- Document 01, "The stream reader": the stream record, fresh and sound. Assumes nothing.
use Rattle.std.specs.Prelude.{ℕ, ◌+◌, ◌-◌, ◌*◌, ◌^◌, Bool, ◌&&◌, List, ◌++◌, leb, eqb, length, take, drop, replicate}
use Rattle.wire.specs.Every.{all_zero}
use Rattle.stream.specs.declared.Stream.{Stream}

-- the bytes s at the start of n cells, and the cells past them zero
abbrev pub cells : ℕ → List ℕ → List ℕ
cells n s = s ++ replicate (n - length s) 0

-- "Fresh, all are 0"
abbrev pub fresh_of : Stream
fresh_of = record { held = replicate 514 0; count = 0; frames = 0; skipped = 0; total = 0 }

-- "It is sound when the held count is at most 514, the cells past it are zero, total is at most 2^48,
-- and 512·frames + skipped + held = total in exact arithmetic": these are numbers without a width
unfoldable pub sound_of : Stream → Bool
sound_of s =
    leb s.count 514
    && all_zero (drop s.count s.held)
    && leb s.total (2 ^ 48)
    && eqb (512 * s.frames + s.skipped + s.count) s.total

abbrev pub held_bytes : Stream → List ℕ
held_bytes s = take s.count s.held
