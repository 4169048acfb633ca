-- `host_from_cells::fit` meets its contract: the cells before word 9's, and those from there on. Assumes nothing.
use mathlib.Core.Path.{◌≡◌, sym, ap, ◌∙◌}
use mathlib.Core.Bool.{Bool}
use mathlib.Core.List.{List}
use Prim.Native.Nat.{ℕ, ◌-◌, ◌≤◌}
use native.Mathlib.Omega.{arith}
use lib.ListN.{length, take, drop}
use lib.Seq.{length-take-le}
use Rattle.std.proofs.lemmas.List.{take-take}
use Rattle.std.proofs.lemmas.Slice.{between_is}
use Rattle.cells.specs.Cells.{within}
use Rattle.host_from_cells.specs.FromCells.{builder_most}
use Rattle.host_from_cells.proofs.InTwo.{long_enough, second_decides, first-fails}
use Rattle.host_from_cells.proofs.fit.Goals as goal

module _ (count : ℕ) (from_9 : 27 ≤ count) (most : count ≤ 63) where
  first_part : {first : Bool} (cells : List ℕ) → first ≡ within (take 27 builder_most) cells → first ≡ within (take 27 (take count builder_most)) cells
  first_part cells is = is ∙ ap (λ m. within m cells) (sym (take-take 27 count builder_most from_9))

  second_part : {second : Bool} (cells : List ℕ) → second ≡ within (take (count - 27) (drop 27 builder_most)) cells → second ≡ within (drop 27 (take count builder_most)) cells
  second_part cells is = is ∙ ap (λ m. within m cells) (between_is builder_most 27 count)

  enough_most : 27 ≤ length (take count builder_most)
  enough_most = omega (arith, from_9, length-take-le count builder_most most)

pub slice_bounds-within-count-then-within : goal.slice_bounds-within-count-then-within
slice_bounds-within-count-then-within g c =
    let asked = c.requires in
    long_enough 27 (take g.row.COUNT builder_most) c.args.cells.now (first_part _ asked.from_9 asked.most _ c.within.ensures) (enough_most _ asked.from_9 asked.most) c.if-within.true

pub slice_bounds-within-start : goal.slice_bounds-within-start
slice_bounds-within-start g c =
    let asked = c.requires in
    long_enough 27 (take g.row.COUNT builder_most) c.args.cells.now (first_part _ asked.from_9 asked.most _ c.within.ensures) (enough_most _ asked.from_9 asked.most) c.if-within.true

pub returns-then-within : goal.returns-then-within
returns-then-within g c =
    let asked = c.requires in
    second_decides 27 (take g.row.COUNT builder_most) c.args.cells.now (first_part _ asked.from_9 asked.most _ c.within.ensures) c.if-within.true (second_part _ asked.from_9 asked.most _ c.within-then-within.ensures)

pub returns-else-within : goal.returns-else-within
returns-else-within g c =
    let asked = c.requires in
    c.if-within.false ∙ first-fails 27 (take g.row.COUNT builder_most) c.args.cells.now (first_part _ asked.from_9 asked.most _ c.within.ensures) c.if-within.false
