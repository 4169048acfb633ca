-- Bytes over others: where they fit and where they do not, and what stands before and behind them. Assumes nothing.
use mathlib.Core.Path.{◌≡◌, ap, ◌∙◌}
use mathlib.Core.Bool.{cond}
use mathlib.Core.List.{List, ◌++◌}
use Prim.Native.Nat.{ℕ, ◌+◌, ◌<◌, ◌≤◌}
use native.Mathlib.Omega.{arith}
use borrow.Author.Tests.{le-leb, lt-leb}
use lib.Dec.{leb}
use lib.ListN.{length, take, drop, length-append}
use lib.Seq.{length-take-le, take_at, drop_at, sets, sets-eq}

module _ {A : Type 0} (to : List A) (place : ℕ) (from : List A) where
  abbrev pub written : List A
  written = cond (leb (place + length from) (length to)) (sets to place from) to

  pub all_written : place + length from ≤ length to → written ≡ sets to place from
  all_written fits = rw (le-leb (place + length from) (length to) fits)

  pub none_written : length to < place + length from → to ≡ written
  none_written over = rw (lt-leb (place + length from) (length to) over)

module _ {A : Type 0} (to : List A) (place : ℕ) (from : List A) (fits : place + length from ≤ length to) where
  before : length (take place to ++ from) ≡ place + length from
  before = length-append (take place to) from ∙ ap (λ n. n + length from) (length-take-le place to (omega arith))

  pub take_sets : take (place + length from) (sets to place from) ≡ take place to ++ from
  take_sets =
      ap (take (place + length from)) (sets-eq from to place fits)
      ∙ take_at (take place to ++ from) (drop (place + length from) to) (place + length from) before

  pub drop_sets : drop (place + length from) (sets to place from) ≡ drop (place + length from) to
  drop_sets =
      ap (drop (place + length from)) (sets-eq from to place fits)
      ∙ drop_at (take place to ++ from) (drop (place + length from) to) (place + length from) before
