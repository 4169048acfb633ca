-- Two parts as one list, what is held and the piece behind it: its length, a byte of it, and a part of it. Assumes nothing.
use mathlib.Core.Path.{◌≡◌, sym, ap, ◌∙◌}
use mathlib.Core.List.{List, ◌++◌, append-nil}
use Prim.Native.Nat.{ℕ, ◌+◌, ◌-◌, ◌<◌, ◌≤◌, min}
use native.Mathlib.Nat.{add-sub_cancel_left}
use native.Mathlib.Omega.{arith}
use lib.ListN.{length, get_or, take, drop, length-append, length-drop, get_or-append}
use lib.Seq.{take-append-le, take-append-add, drop-append-le, drop-append-add, get_or-append-add, length-take-le, take_all, sets, length-sets}
use Rattle.wire.proofs.Cases.{by_order}
use Rattle.wire.proofs.Lists.{sets-append}
use Rattle.wire.proofs.Copies.{written, all_written}

-- as many bytes as are held, and the piece
pub joined_length : (count : ℕ) (held piece : List ℕ) → count ≤ length held → length (take count held ++ piece) ≡ count + length piece
joined_length count held piece fits =
    length-append (take count held) piece ∙ ap (λ n. n + length piece) (length-take-le count held fits)

module _ (held piece : List ℕ) where
  pub byte-held : (p : ℕ) → p < length held → get_or held p 0 ≡ get_or (held ++ piece) p 0
  byte-held p near = sym (get_or-append held piece 0 p near)

  pub byte-piece : (p : ℕ) → length held ≤ p → get_or piece (p - length held) 0 ≡ get_or (held ++ piece) p 0
  byte-piece p far =
      let whole : length held + (p - length held) ≡ p = omega arith in
      sym (get_or-append-add held piece (p - length held) 0) ∙ ap (λ q. get_or (held ++ piece) q 0) whole

  -- from a place in the piece on
  pub part-piece : (p n : ℕ) → length held ≤ p → take n (drop (p - length held) piece) ≡ take n (drop p (held ++ piece))
  part-piece p n far =
      let whole : length held + (p - length held) ≡ p = omega arith in
      ap (take n) (sym (drop-append-add held piece (p - length held)) ∙ ap (λ q. drop q (held ++ piece)) whole)

  -- from a place in what is held on, as far as that goes and then from the piece
  pub part_across : (p n : ℕ) → p < length held → take (min n (length held - p)) (drop p held) ++ take (n - min n (length held - p)) piece ≡ take n (drop p (held ++ piece))
  part_across p n near =
      let rest : length (drop p held) ≡ length held - p = length-drop p held in
      by_order n (length held - p)
      (λ inside.
      let all : min n (length held - p) ≡ n = omega arith in
      let none : n - n ≡ 0 = omega arith in
      rw (drop-append-le p held piece (omega arith), take-append-le n (drop p held) piece (omega arith), all, none)
      (append-nil (take n (drop p held))))
      (λ over.
      let all : min n (length held - p) ≡ length held - p = omega arith in
      let more : n ≡ length (drop p held) + (n - (length held - p)) = omega arith in
      rw (all, drop-append-le p held piece (omega arith), take_all (length held - p) (drop p held) (omega arith))
      (sym (take-append-add (drop p held) piece (n - (length held - p))) ∙ ap (λ k. take k (drop p held ++ piece)) (sym more)))

  -- ---- a part of it, over the bytes of another list

  module _ (to : List ℕ) (at p n : ℕ) (inside : p + n ≤ length (held ++ piece)) (room : at + n ≤ length to) where
    abbrev pub asked : List ℕ
    asked = take n (drop p (held ++ piece))

    pub put_across : p < length held → (near : ℕ) → near ≡ min n (length held - p) → written (written to at (take (p + near - p) (drop p held))) (at + near) (take (n - near) piece) ≡ sets to at asked
    put_across here near is =
        let first = take near (drop p held) in
        let second = take (n - near) piece in
        let first-long : length first ≡ near = length-take-le near (drop p held) (rw (length-drop p held) (omega arith)) in
        let second-long : length second ≡ n - near = length-take-le (n - near) piece (omega (arith, length-append held piece)) in
        let whole : first ++ second ≡ asked = rw is (part_across p n here) in
        let size : length (sets to at first) ≡ length to = length-sets to at first in
        let behind : at + near ≡ at + length first = ap (λ k. at + k) (sym first-long) in
        rw (add-sub_cancel_left p near, all_written to at first (omega arith), all_written (sets to at first) (at + near) second (omega arith), behind)
        (sets-append to at first second ∙ ap (sets to at) whole)
