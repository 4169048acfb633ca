-- What a lookup tells of the count: one that is found is 1 to 8, and its row is the rule's. Assumes nothing.
use mathlib.Core.Path.{◌≡◌}
use mathlib.Core.Bool.{true, false}
use Prim.Native.Nat.{ℕ, ◌≤◌}
use borrow.Author.Tests.{leb-true}
use lib.Dec.{leb}
use Rattle.std.specs.Prelude.{Ok, Err}
use Rattle.wire.proofs.Cases.{by_test, both_true}
use Rattle.wire.specs.declared.Refusal.{Refusal}
use Rattle.wire.specs.declared.Refusal.TheVariants.{BadCount}
use Rattle.layout.specs.Slots.{counted}
use Rattle.layout.specs.Table.{row_of, lookup}
use Rattle.layout.specs.declared.row.Row.{Row}

pub range : (n : ℕ) → counted n ≡ true → (1 ≤ n) × (n ≤ 8)
range n is = let both = both_true (leb 1 n) (leb n 8) is in (leb-true 1 n both.0, leb-true n 8 both.1)

module _ (n : ℕ) where
  row_of_counted : counted n ≡ true → lookup n ≡ Ok (row_of n)
  row_of_counted is = rw is

  none_of_other : counted n ≡ false → lookup n ≡ Err BadCount
  none_of_other isn't = rw isn't

  pub found : (r : Row) → lookup n ≡ Ok r → (counted n ≡ true) × (r ≡ row_of n)
  found r e =
      by_test (counted n) (λ is. (is, (let same = row_of_counted is in cc)))
      (λ isn't. let other = none_of_other isn't in cc)

  -- its only refusal is BAD_COUNT
  pub not_found : (e : Refusal) → lookup n ≡ Err e → (counted n ≡ false) × (e ≡ BadCount)
  not_found e is =
      by_test (counted n) (λ counts. let other = row_of_counted counts in cc) (λ isn't. (isn't, (let same = none_of_other isn't in cc)))
