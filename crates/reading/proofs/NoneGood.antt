-- Places of which none begins a good frame: one more of them, and three at once. Assumes nothing.
use mathlib.Core.Path.{◌≡◌, sym, ap, ◌∙◌}
use mathlib.Core.Bool.{false, ◌&&◌, and-false}
use mathlib.Core.List.{List}
use Prim.Native.Nat.{ℕ, ◌+◌, ◌<◌, ◌≤◌}
use native.Mathlib.Omega.{arith}
use lib.Dec.{eqb}
use lib.ListN.{get_or}
use Rattle.wire.proofs.Cases.{by_order}
use Rattle.wire.specs.Sync.{sync_at}
use Rattle.reading.specs.Reading.{good}

-- none from start on, and before end
pub record NoneGood (s : List ℕ) (start end : ℕ) : Type 0 where
  pub none : (k : ℕ) → start ≤ k → k < end → good s k ≡ false

-- a byte that is not 7F stands in no sync: not as its first byte, its second or its third
pub no_sync_lem : (s : List ℕ) (p k : ℕ) → k ≤ p → p ≤ k + 2 → eqb (get_or s p 0) 0x7f ≡ false → sync_at s k ≡ false
no_sync_lem s p k low high other =
    let at : (q : ℕ) → p ≡ q → eqb (get_or s q 0) 0x7f ≡ false = λ q is. sym (ap (λ n. eqb (get_or s n 0) 0x7f) is) ∙ other in
    by_order k p
    (λ later.
    by_order (k + 1) p
    (λ third. rw (at (k + 2) (omega arith)) (and-false (eqb (get_or s k 0) 0x7f && eqb (get_or s (k + 1) 0) 0x7f)))
    (λ second. rw (at (k + 1) (omega arith), and-false (eqb (get_or s k 0) 0x7f))))
    (λ first. rw (at k (omega arith)))

pub none_yet : (s : List ℕ) (start : ℕ) → NoneGood s start start
none_yet s start = record { none = λ k low high. absurd (omega arith) }

module _ {s : List ℕ} {start end : ℕ} (before : NoneGood s start end) where
  pub one_more : good s end ≡ false → NoneGood s start (end + 1)
  one_more here =
      record { none = λ k low high. by_order k end (λ below. before.none k low below) (λ above. let is : end ≡ k = omega arith in sym (ap (good s) is) ∙ here) }

  -- the third byte from here on rules out three places
  pub three_more : eqb (get_or s (end + 2) 0) 0x7f ≡ false → NoneGood s start (end + 3)
  three_more other =
      record {
        none =
            λ k low high.
            by_order k end (λ below. before.none k low below) (λ above. rw (no_sync_lem s (end + 2) k (omega arith) (omega arith) other));
      }

  pub fewer : (m : ℕ) → m ≤ end → NoneGood s start m
  fewer m less = record { none = λ k low high. before.none k low (omega arith) }
