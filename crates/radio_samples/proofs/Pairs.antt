-- I and Q of one receiver, read or written in one turn: the pair laid, and all pairs one after another. Assumes nothing.
use mathlib.Core.Path.{◌≡◌, sym, ap, ◌∙◌}
use mathlib.Core.List.{List}
use Prim.Native.Nat.{ℕ, ◌+◌, ◌*◌}
use native.Mathlib.Nat.{zero-add, add-zero}
use native.Mathlib.Numerals.{add-one}
use native.Mathlib.Omega.{arith}
use lib.IntN.{ℤ, pos}
use lib.ListN.{length, get_or, set}
use lib.Seq.{sets}
use Rattle.wire.specs.Lists.{tab, tabs}
use Rattle.wire.specs.Numbers.{bytes_of, unsigned}
use Rattle.wire.proofs.Lists.{length-tab, tab-parts, tabs-groups, sets-append, sets-all}
use Rattle.radio_samples.specs.Samples.{sample24}
use Rattle.radio_samples.specs.Fill.{iq_bytes}

module _ (part : List ℕ) where
  abbrev value : ℕ → ℤ
  value j = sample24 part (3 * j)

  abbrev pub pair_read : ℕ → List ℤ
  pair_read r = tab 2 (λ j. value (r * 2 + j))

  pub pair_read_lem : (r : ℕ) (values : List ℤ) (i q : ℤ) → i ≡ sample24 part (r * 6) → q ≡ sample24 part (r * 6 + 3) → set (set values (r * 2) i) (r * 2 + 1) q ≡ sets values (0 + r * 2) (pair_read r)
  pair_read_lem r values i q is-i is-q =
      let first : r * 6 ≡ 3 * (r * 2 + 0) = omega arith in
      let second : r * 6 + 3 ≡ 3 * (r * 2 + 1) = omega arith in
      rw (is-i, is-q, second, first, zero-add (r * 2), add-one (r * 2))

  pub pairs_read : (n : ℕ) (values : List ℤ) → length values ≡ n * 2 → sets values 0 (tabs n pair_read) ≡ tab (length values) value
  pairs_read n values long =
      ap (sets values 0) (sym (tab-parts n 2 value) ∙ ap (λ m. tab m value) (sym long)) ∙ sets-all values (tab (length values) value) (length-tab (length values) value)

module _ (values : List ℤ) where
  abbrev pub pair_bytes : ℕ → List ℕ
  pair_bytes r = tabs 2 (λ j. iq_bytes values (r * 2 + j))

  pub pair_written : (r : ℕ) (part one both : List ℕ) (i q : ℤ) → i ≡ get_or values (r * 2) (pos 0) → q ≡ get_or values (r * 2 + 1) (pos 0) → one ≡ sets part (r * 6) (bytes_of 3 (unsigned 24 i)) → both ≡ sets one (r * 6 + 3) (bytes_of 3 (unsigned 24 q)) → both ≡ sets part (0 + r * 6) (pair_bytes r)
  pair_written r part one both i q is-i is-q first-wrote then-wrote =
      let first : i ≡ get_or values (r * 2 + 0) (pos 0) = is-i ∙ ap (λ k. get_or values k (pos 0)) (sym (add-zero (r * 2))) in
      rw (then-wrote, first-wrote, first, is-q, zero-add (r * 6)) (sets-append part (r * 6) (iq_bytes values (r * 2 + 0)) (iq_bytes values (r * 2 + 1)))

  pub pairs_written : (n : ℕ) → length values ≡ n * 2 → tabs n pair_bytes ≡ tabs (length values) (iq_bytes values)
  pairs_written n long = sym (tabs-groups n 2 (iq_bytes values)) ∙ ap (λ m. tabs m (iq_bytes values)) (sym long)
