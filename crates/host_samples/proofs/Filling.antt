-- A slice filled part by part, as the loops over slots fill theirs. Assumes nothing.
use mathlib.Core.Path.{◌≡◌, sym, ap, ◌∙◌}
use mathlib.Core.List.{List, ◌++◌, append-nil, append_assoc}
use Prim.Native.Nat.{ℕ, ◌+◌, ◌-◌, ◌*◌, ◌≤◌}
use native.Mathlib.Nat.{le_trans, mul-le-mul_right, suc-mul, add-sub_cancel_left}
use native.Mathlib.Numerals.{add-one}
use native.Mathlib.Omega.{arith}
use borrow.Rule.Slice.PartMut.{put_mid}
use lib.ListN.{length, drop, length-append, length-drop, drop_of_length-le}
use lib.Seq.{drop-length, take_at, drop_at, drop-drop}
use Rattle.wire.proofs.Lists.{length-tabs}
use Rattle.wire.specs.Lists.{tabs}

module _ {A : Type 0} where
  -- all that follows a head, lent and replaced
  pub put_rest : (n : ℕ) (head rest ys : List A) → length head ≡ n → put_mid n (length (head ++ rest) - n) (head ++ rest) ys ≡ head ++ ys
  put_rest n head rest ys long =
      let left : length (head ++ rest) - n ≡ length rest = rw (length-append head rest) (omega arith) in
      rw (left, take_at head rest n long, drop_at head rest n long, drop-length rest, append-nil ys)

  module _ (k : ℕ) (f : ℕ → List A) (xs : List A) where
    -- the first n parts, of k elements each, written over the start of xs
    abbrev pub filled : ℕ → List A
    filled n = tabs n f ++ drop (n * k) xs

    -- all of xs, where that is n parts
    pub all_filled : (n : ℕ) → length xs ≡ n * k → filled n ≡ tabs n f
    all_filled n whole = ap (λ l. tabs n f ++ l) (drop_of_length-le xs {i = n * k} (omega arith)) ∙ append-nil (tabs n f)

    module _ (long : (t : ℕ) → length (f t) ≡ k) where
      pub length-filled : (n : ℕ) → n * k ≤ length xs → length (filled n) ≡ length xs
      length-filled n fits =
          rw (length-append (tabs n f) (drop (n * k) xs), length-tabs k f n (λ t h. long t), length-drop (n * k) xs) (omega arith)

      -- one part more, lent from n * k to n * k + k
      pub filled_more : (n : ℕ) → put_mid (n * k) (n * k + k - n * k) (filled n) (f n) ≡ filled (n + 1)
      filled_more n =
          let before : length (tabs n f) ≡ n * k = length-tabs k f n (λ t h. long t) in
          rw (add-one n, suc-mul n k, add-sub_cancel_left (n * k) k, take_at (tabs n f) (drop (n * k) xs) (n * k) before, drop_at (tabs n f) (drop (n * k) xs) (n * k) before, drop-drop k (n * k) xs)
          (sym (append_assoc (tabs n f) (f n) (drop (n * k + k) xs)))

  -- after t turns of a loop that fills n parts
  pub record Turned (k : ℕ) (f : ℕ → List A) (xs₀ : List A) (n t : ℕ) (xs : List A) : Type 0 where
    pub room : n * k ≤ length xs₀
    pub turns : t ≤ n
    pub same : xs ≡ filled k f xs₀ t
    pub long : length xs ≡ length xs₀

  pub turned : (k : ℕ) (f : ℕ → List A) (xs₀ : List A) (n t : ℕ) (xs : List A) → ((s : ℕ) → length (f s) ≡ k) → n * k ≤ length xs₀ → t ≤ n → xs ≡ filled k f xs₀ t → Turned k f xs₀ n t xs
  turned k f xs₀ n t xs long room turns same =
      record {
        room = room;
        turns = turns;
        same = same;
        long = ap length same ∙ length-filled k f xs₀ long t (le_trans (mul-le-mul_right k turns) room);
      }
