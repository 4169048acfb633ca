-- The record and the builder that cells are, in their cases: too few of them, and enough. Assumes nothing.
use mathlib.Core.Path.{◌≡◌, refl, sym, ap, subst⁻¹, ◌∙◌}
use mathlib.Core.List.{List, ◌++◌}
use Prim.Native.Nat.{ℕ, suc, ◌<◌, ◌≤◌}
use borrow.Author.Tests.{lt-leb, le-leb}
use lib.ListN.{length, get_or, take, drop, take-append-drop}
use Rattle.wire.specs.Lists.{tab}
use Rattle.wire.proofs.Lists.{tab-get_or}
use Rattle.host.specs.Build.{fresh_builder}
use Rattle.host_record.specs.Record.{fresh}
use Rattle.host_cells.specs.Host.{host_count}
use Rattle.host_from_cells.specs.FromCells.{host_of, host_in, builder_of, builder_in}

-- a record is that of its own cells, whatever stands behind them
pub host_of_first : (cells : List ℕ) → host_count ≤ length cells → host_of (take host_count cells) ≡ host_of cells
host_of_first cells room =
    let first = tab host_count (λ k. get_or cells k 0) in
    let parted : cells ≡ first ++ drop host_count cells =
    sym (ap (λ l. l ++ drop host_count cells) (tab-get_or host_count cells 0 room) ∙ take-append-drop host_count cells) in
    subst⁻¹ (λ (l : List ℕ). host_of (take host_count l) ≡ host_of l) parted refl

module _ (cells : List ℕ) where
  pub host_few : length cells < host_count → host_in cells ≡ fresh
  unfolding host_in
  host_few few = rw (lt-leb host_count (length cells) few)

  pub host_held : host_count ≤ length cells → host_in cells ≡ host_of cells
  unfolding host_in
  host_held room = rw (le-leb host_count (length cells) room)

  pub builder_few : length cells < suc host_count → builder_in cells ≡ fresh_builder
  unfolding builder_in
  builder_few few = rw (lt-leb (suc host_count) (length cells) few)

  pub builder_held : suc host_count ≤ length cells → builder_in cells ≡ builder_of cells
  unfolding builder_in
  builder_held room = rw (le-leb (suc host_count) (length cells) room)
