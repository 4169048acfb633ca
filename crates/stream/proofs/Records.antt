-- What `sound_of` tells, as facts about numbers and cells, and the record after a reading. Assumes nothing.
use mathlib.Core.Path.{◌≡◌, ◌∙◌}
use mathlib.Core.Bool.{true, false, ◌&&◌, and-true}
use mathlib.Core.List.{List}
use Prim.Native.Nat.{ℕ, ◌+◌, ◌*◌, ◌^◌, ◌≤◌}
use borrow.Author.Tests.{leb-true, eqb-true, le-leb, eq-eqb}
use lib.Dec.{leb, eqb}
use lib.ListN.{drop}
use Rattle.wire.proofs.Cases.{by_test}
use Rattle.wire.proofs.Cases.{both_true}
use Rattle.wire.specs.Every.{all_zero}
use Rattle.stream.specs.Record.{sound_of}
use Rattle.stream.specs.declared.Stream.{Stream}
use Rattle.stream.specs.declared.Counts.{Counts}

-- a record's numbers, and the record of numbers and cells that stand apart
abbrev pub numbers : Stream → Counts
numbers s = record { count = s.count; frames = s.frames; skipped = s.skipped; total = s.total }

abbrev pub whole : Counts → List ℕ → Stream
whole n held = record { held = held; count = n.count; frames = n.frames; skipped = n.skipped; total = n.total }

pub record Sound (s : Stream) : Type 0 where
  pub few : s.count ≤ 514
  pub clean : all_zero (drop s.count s.held) ≡ true
  pub small : s.total ≤ 2 ^ 48
  pub tally : 512 * s.frames + s.skipped + s.count ≡ s.total

module _ (s : Stream) where
  -- where the numbers are right, the cells decide
  pub cells_decide : s.count ≤ 514 → s.total ≤ 2 ^ 48 → 512 * s.frames + s.skipped + s.count ≡ s.total → sound_of s ≡ all_zero (drop s.count s.held)
  unfolding sound_of
  cells_decide few small tally =
      rw (le-leb s.count 514 few, le-leb s.total (2 ^ 48) small, eq-eqb (512 * s.frames + s.skipped + s.count) s.total tally)
      (and-true (all_zero (drop s.count s.held) && true) ∙ and-true (all_zero (drop s.count s.held)))

  pub sound_shown : Sound s → sound_of s ≡ true
  sound_shown f = cells_decide f.few f.small f.tally ∙ f.clean

  pub sound_told : sound_of s ≡ true → Sound s
  unfolding sound_of
  sound_told e =
      let sum = both_true (leb s.count 514 && all_zero (drop s.count s.held) && leb s.total (2 ^ 48)) (eqb (512 * s.frames + s.skipped + s.count) s.total) e in
      let total = both_true (leb s.count 514 && all_zero (drop s.count s.held)) (leb s.total (2 ^ 48)) sum.0 in
      let held = both_true (leb s.count 514) (all_zero (drop s.count s.held)) total.0 in
      record {
        few = leb-true s.count 514 held.0;
        clean = held.1;
        small = leb-true s.total (2 ^ 48) total.1;
        tally = eqb-true (512 * s.frames + s.skipped + s.count) s.total sum.1;
      }

  pub unsound : (Sound s → ⊥) → sound_of s ≡ false
  unsound never = by_test (sound_of s) (λ e. absurd (never (sound_told e))) (λ e. e)
