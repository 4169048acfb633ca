-- Bytes in cells that are lent: what is left over what was held, and zeros behind it. Assumes nothing.
use mathlib.Core.Path.{◌≡◌, refl, sym, ap, ◌∙◌, subst}
use mathlib.Core.Bool.{true}
use mathlib.Core.List.{List, ◌++◌, append_assoc}
use Prim.Native.Nat.{ℕ, ◌+◌, ◌-◌, ◌<◌, ◌≤◌}
use native.Mathlib.Nat.{zero-add}
use native.Mathlib.Omega.{arith}
use borrow.Rule.Slice.PartMut.{put_mid}
use lib.ListN.{length, take, drop, replicate, length-append, length-drop, length-replicate, replicate-append-replicate, take-append-drop}
use lib.Seq.{drop-drop, take_all, length-take-le, drop-append-le, drop-append-add, sets, sets-eq, length-sets}
use Rattle.std.proofs.lemmas.List.{drop-take}
use Rattle.std.proofs.lemmas.List.Edits.{paste_all}
use Rattle.std.proofs.lemmas.Slice.{put_mid-paste}
use Rattle.std.specs.List.{copy_within}
use Rattle.wire.proofs.Copies.{written, all_written}
use Rattle.wire.proofs.Everywhere.{zeros_are}
use Rattle.wire.proofs.Lists.{sets-append}
use Rattle.wire.specs.Every.{all_zero}
use Rattle.stream.proofs.Cells.{drop-replicate}
use Rattle.stream.proofs.Joined.{joined_length}
use Rattle.stream.specs.Record.{cells}

-- from the start on, one list after the other
sets_then : (xs ys zs : List ℕ) → sets (sets xs 0 ys) (length ys) zs ≡ sets xs 0 (ys ++ zs)
sets_then xs ys zs = ap (λ n. sets (sets xs 0 ys) n zs) (sym (zero-add (length ys))) ∙ sets-append xs 0 ys zs

-- ---- bytes moved to the start

module _ (held : List ℕ) (place end : ℕ) (few : place ≤ end) (room : end ≤ length held) where
  abbrev pub moved : List ℕ
  moved = drop place (take end held)

  moved-long : length moved ≡ end - place
  moved-long = length-drop place (take end held) ∙ ap (λ n. n - place) (length-take-le end held room)

  pub shifted : copy_within held place end 0 ≡ sets held 0 moved
  shifted =
      let all : place + (end - place) ≡ end = omega arith in
      let is : moved ≡ take (end - place) (drop place held) = ap (λ n. drop place (take n held)) (sym all) ∙ drop-take place (end - place) held in
      sym (sets-eq moved held 0 (omega (arith, moved-long)) ∙ ap (λ n. moved ++ drop (0 + n) held) moved-long ∙ ap (λ l. l ++ drop (0 + (end - place)) held) is)

  pub stays : place ≡ 0 → held ≡ sets held 0 moved
  stays none =
      let size = length-take-le end held room in
      sym
      (ap (λ n. sets held 0 (drop n (take end held))) none
      ∙ sets-eq (take end held) held 0 (omega arith)
      ∙ ap (λ n. take end held ++ drop (0 + n) held) size
      ∙ ap (λ n. take end held ++ drop n held) (zero-add end)
      ∙ take-append-drop end held)

-- ---- zeros

-- zeros behind bytes, in cells that are zero past them, are none the more
as_many : (n front k all : ℕ) → all ≡ front + k → front + k ≤ n → k + (n - all) ≡ n - front
as_many n front k all sum fit = omega arith

cells_zeros : (n : ℕ) (front : List ℕ) (k : ℕ) → length front + k ≤ n → cells n (front ++ replicate k 0) ≡ cells n front
cells_zeros n front k fit =
    let size = length (front ++ replicate k 0) in
    let sum : size ≡ length front + k = length-append front (replicate k 0) ∙ ap (λ m. length front + m) (length-replicate {A = ℕ} k 0) in
    append_assoc front (replicate k 0) (replicate (n - size) 0)
    ∙ ap (λ l. front ++ l) (replicate-append-replicate k (n - size) 0 ∙ ap (λ m. replicate m 0) (as_many n (length front) k size sum fit))

-- ---- cells of which those past what is held are zero

there : (count m : ℕ) → count ≤ m → count + (m - count) ≡ m
there count m low = omega arith

behind : (all count m : ℕ) → count ≤ m → all - count - (m - count) ≡ all - m
behind all count m low = omega arith

module _ (held : List ℕ) (count : ℕ) (long : length held ≡ 514) (few : count ≤ 514) (clean : all_zero (drop count held) ≡ true) where
  free : (m : ℕ) → count ≤ m → drop m held ≡ replicate (514 - m) 0
  free m low =
      let size : length (drop count held) ≡ 514 - count = length-drop count held ∙ ap (λ n. n - count) long in
      ap (λ n. drop n held) (sym (there count m low))
      ∙ sym (drop-drop (m - count) count held)
      ∙ ap (drop (m - count)) (zeros_are (drop count held) clean ∙ ap (λ n. replicate n 0) size)
      ∙ drop-replicate (m - count) (514 - count) 0
      ∙ ap (λ n. replicate n 0) (behind 514 count m low)

  -- over them as many bytes as were held, or more
  over_all : (bytes : List ℕ) → count ≤ length bytes → length bytes ≤ 514 → sets held 0 bytes ≡ cells 514 bytes
  over_all bytes many fit =
      sets-eq bytes held 0 (omega arith)
      ∙ ap (λ l. bytes ++ l) (ap (λ n. drop n held) (zero-add (length bytes)) ∙ free (length bytes) many)

  -- or fewer, and zeros as far as bytes were held
  zeroed : (front zeros : List ℕ) → length front < count → zeros ≡ replicate (count - length front) 0 → put_mid (length front) (count - length front) (sets held 0 front) zeros ≡ cells 514 front
  zeroed front zeros fewer are =
      let none = replicate {A = ℕ} (count - length front) 0 in
      let size : length none ≡ count - length front = length-replicate {A = ℕ} (count - length front) 0 in
      let room : length front + length none ≤ length (sets held 0 front) = omega (arith, length-sets held 0 front) in
      let sum = length-append front none in
      put_mid-paste (length front) (count - length front) (sets held 0 front) zeros none (length none) are size refl
      ∙ paste_all (sets held 0 front) (length front) none (length none) refl
      ∙ sym (append_assoc (take (length front) (sets held 0 front)) none (drop (length front + length none) (sets held 0 front)))
      ∙ sym (sets-eq none (sets held 0 front) (length front) room)
      ∙ sets_then held front none
      ∙ over_all (front ++ none) (omega arith) (omega arith)
      ∙ cells_zeros 514 front (count - length front) (omega arith)

-- ---- what is left of the held bytes and the piece

module _ (held piece : List ℕ) (count place : ℕ) (long : length held ≡ 514) (few : count ≤ 514) (inside : place ≤ count + length piece) (small : count + length piece ≤ place + 514) where
  abbrev pub rest : List ℕ
  rest = drop place (take count held ++ piece)

  held_long : length (take count held) ≡ count
  held_long = length-take-le count held (omega arith)

  rest_long : length rest ≡ count + length piece - place
  rest_long =
      length-drop place (take count held ++ piece)
      ∙ ap (λ n. n - place) (joined_length count held piece (omega arith))

  -- the held bytes from the place on at the start, and the piece behind them
  pub from_both : place < count → written (sets held 0 (drop place (take count held))) (count - place) piece ≡ sets held 0 rest
  from_both some =
      let first = drop place (take count held) in
      let size : length first ≡ count - place = length-drop place (take count held) ∙ ap (λ n. n - place) held_long in
      let whole : length (sets held 0 first) ≡ length held = length-sets held 0 first in
      all_written (sets held 0 first) (count - place) piece (omega arith)
      ∙ ap (λ n. sets (sets held 0 first) n piece) (sym size)
      ∙ sets_then held first piece
      ∙ ap (sets held 0) (sym (drop-append-le place (take count held) piece (omega (arith, held_long))))

  -- the end of the piece
  pub from-piece : count ≤ place → written held 0 (take (length piece - (place - count)) (drop (place - count) piece)) ≡ sets held 0 rest
  from-piece none =
      let end = drop (place - count) piece in
      let size : length end ≡ length piece - (place - count) = length-drop (place - count) piece in
      let past : length (take count held) + (place - count) ≡ place = omega (arith, held_long) in
      let is : end ≡ rest = sym (drop-append-add (take count held) piece (place - count)) ∙ ap (λ n. drop n (take count held ++ piece)) past in
      rw (take_all (length piece - (place - count)) end (omega arith)) (all_written held 0 end (omega arith) ∙ ap (sets held 0) is)

  -- in cells of which those past the held ones are zero
  module _ (clean : all_zero (drop count held) ≡ true) where
    pub nothing_cleared : count ≤ count + length piece - place → sets held 0 rest ≡ cells 514 rest
    nothing_cleared many = over_all held count long few clean rest (omega (arith, rest_long)) (omega (arith, rest_long))

    pub cleared : (zeros : List ℕ) → zeros ≡ replicate (count - (count + length piece - place)) 0 → count + length piece - place < count → put_mid (count + length piece - place) (count - (count + length piece - place)) (sets held 0 rest) zeros ≡ cells 514 rest
    cleared zeros are fewer =
        let left = count + length piece - place in
        subst (λ n. zeros ≡ replicate (count - n) 0 → n < count → put_mid n (count - n) (sets held 0 rest) zeros ≡ cells 514 rest) rest_long
        (λ same less. zeroed held count long few clean rest zeros less same) are fewer
