-- Nothing of a stream record is lost in the door: the record that is left in the cells is the one that they are made of.
-- Assumes nothing.
use mathlib.Core.Path.{◌≡◌, ap, ◌∙◌}
use mathlib.Core.List.{List}
use Prim.Native.Nat.{ℕ, ◌+◌, ◌≤◌}
use native.Mathlib.Omega.{arith}
use lib.ListN.{length, take, drop}
use lib.Seq.{sets, take_at}
use Rattle.stream.specs.declared.Stream.{Stream}
use Rattle.cells.proofs.Back.{over}
use Rattle.stream_cells.specs.Stream.{stream_of, counts_of}

pub stream_back : (s : Stream) (counts held : List ℕ) → length s.held ≡ 514 → 4 ≤ length counts → 514 ≤ length held → stream_of (sets counts 0 (counts_of s)) (sets held 0 s.held) ≡ s
stream_back s counts held full few room =
    let bytes : take 514 (sets held 0 s.held) ≡ s.held = ap (take 514) (over s.held held (omega (arith, full))) ∙ take_at s.held (drop (0 + length s.held) held) 514 full in
    ap (λ l. stream_of l (sets held 0 s.held)) (over (counts_of s) counts few)
    ∙ (λ i. record { held = bytes i; count = s.count; frames = s.frames; skipped = s.skipped; total = s.total })
