-- The cells of a stream record, in their cases: too few of them, and enough. Assumes nothing.
use mathlib.Core.Path.{◌≡◌, sym, ap, ◌∙◌}
use mathlib.Core.Bool.{true, false, and-false}
use mathlib.Core.List.{List, ◌∷◌, ◌++◌}
use Prim.Native.Nat.{ℕ, ◌+◌, ◌<◌, ◌≤◌}
use native.Mathlib.Omega.{arith}
use borrow.Author.Tests.{leb-true, le-leb, lt-leb}
use lib.Dec.{leb}
use lib.ListN.{length, get_or, take, drop, take-append-drop}
use lib.Seq.{get_or-take, sets}
use Rattle.wire.proofs.Cases.{both_true}
use Rattle.cells.proofs.Back.{over}
use Rattle.stream.specs.Record.{fresh_of}
use Rattle.stream.specs.declared.Stream.{Stream}
use Rattle.stream_cells.specs.Stream.{lent, stream_of, counts_of, stream_in, put_in}

module _ (counts held : List ℕ) where
  pub enough : lent counts held ≡ true → (4 ≤ length counts) × (514 ≤ length held)
  enough fits = let both = both_true (leb 4 (length counts)) (leb 514 (length held)) fits in (leb-true 4 (length counts) both.0, leb-true 514 (length held) both.1)

  pub there_are : 4 ≤ length counts → 514 ≤ length held → lent counts held ≡ true
  there_are many long = rw (le-leb 4 (length counts) many, le-leb 514 (length held) long)

  pub few_counts : length counts < 4 → lent counts held ≡ false
  few_counts few = rw (lt-leb 4 (length counts) few)

  pub few_bytes : length held < 514 → lent counts held ≡ false
  few_bytes few = rw (lt-leb 514 (length held) few, and-false (leb 4 (length counts)))

  pub stream_few : lent counts held ≡ false → stream_in counts held ≡ fresh_of
  unfolding stream_in
  stream_few few = rw few

  pub stream-held : lent counts held ≡ true → stream_in counts held ≡ stream_of counts held
  unfolding stream_in
  stream-held room = rw room

  pub put_few : (s : Stream) → lent counts held ≡ false → put_in s counts held ≡ (counts, held)
  unfolding put_in
  put_few s few = rw few

  pub put_room : (s : Stream) → lent counts held ≡ true → put_in s counts held ≡ (sets counts 0 (counts_of s), sets held 0 s.held)
  unfolding put_in
  put_room s room = rw room

  -- the first cells are the record that all of them are
  pub of_first : (first : List ℕ) → first ≡ take 4 counts → stream_of counts held ≡ record { held = take 514 held; count = get_or first 0 0; frames = get_or first 1 0; skipped = get_or first 2 0; total = get_or first 3 0 }
  of_first first is = rw (is, get_or-take 4 counts 0 0 (omega arith), get_or-take 4 counts 1 0 (omega arith), get_or-take 4 counts 2 0 (omega arith), get_or-take 4 counts 3 0 (omega arith))

  -- where the bytes are too few, the counts are as they were
  pub put_none : (s : Stream) (first : List ℕ) → first ≡ take 4 counts → lent counts held ≡ false → (first ++ drop 4 counts, held) ≡ put_in s counts held
  put_none s first is few = rw (is, take-append-drop 4 counts) (sym (put_few s few))

  -- a record's four counts and 514 bytes, and what stands behind them
  pub put_over : (s : Stream) → lent counts held ≡ true → length s.held ≡ 514 → put_in s counts held ≡ (s.count ∷ s.frames ∷ s.skipped ∷ s.total ∷ drop 4 counts, s.held ++ drop 514 held)
  put_over s room full =
      let both = enough room in
      let end : 0 + length s.held ≡ 514 = omega arith in
      let behind : sets held 0 s.held ≡ s.held ++ drop 514 held = over s.held held (omega arith) ∙ ap (λ n. s.held ++ drop n held) end in
      put_room s room ∙ (λ i. (over (counts_of s) counts both.0 i, behind i))
