-- Which fields a word's number picks in `heard`: the tests of a receiver's word, and of an unlisted one. Assumes nothing.
use mathlib.Core.Path.{◌≡◌}
use mathlib.Core.Bool.{true, false}
use Prim.Native.Nat.{ℕ, ◌≤◌}
use native.Mathlib.Omega.{arith}
use borrow.Author.Tests.{ne_eqb, le-leb, lt-leb, leb-true}
use lib.Dec.{eqb, leb}
use Rattle.wire.proofs.Cases.{both_true}
use Rattle.host_words.specs.Words.{tunes}

-- a word that is none of 0, 1, 9 and 10
pub record Tests (a : ℕ) : Type 0 where
  pub settings : eqb a 0 ≡ false
  pub transmitter : eqb a 1 ≡ false
  pub switches : eqb a 9 ≡ false
  pub front : eqb a 10 ≡ false

pub tests : (a : ℕ) → 2 ≤ a → (a ≡ 9 → ⊥) → (a ≡ 10 → ⊥) → Tests a
tests a above not-switches not-front =
    record {
      settings = ne_eqb a 0 (omega arith);
      transmitter = ne_eqb a 1 (omega arith);
      switches = ne_eqb a 9 not-switches;
      front = ne_eqb a 10 not-front;
    }

pub receiver-tunes : (a : ℕ) → 2 ≤ a → a ≤ 8 → tunes a ≡ true
receiver-tunes a above below = rw (le-leb 2 a above, le-leb a 8 below)

pub tuned : (a : ℕ) → tunes a ≡ true → (2 ≤ a) × (a ≤ 8)
tuned a e =
    let both = both_true (leb 2 a) (leb a 8) e in
    (leb-true 2 a both.0, leb-true a 8 both.1)

pub past-tunes : (a : ℕ) → 9 ≤ a → tunes a ≡ false
past-tunes a above = let from : 2 ≤ a = omega arith in rw (le-leb 2 a from, lt-leb a 8 above)
