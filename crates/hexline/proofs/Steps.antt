-- One byte of a chunk, case by case, and the loop that reads a chunk. Assumes nothing.
use mathlib.Core.Path.{◌≡◌, refl, sym, ap, ap₂, ◌∙◌}
use mathlib.Core.List.{List, [], ◌∷◌}
use Prim.Native.Nat.{ℕ, ◌+◌, ◌-◌, ◌^◌, ◌<◌, ◌≤◌, min}
use native.Mathlib.Numerals.{add-one}
use native.Mathlib.Omega.{arith}
use borrow.Author.Tests.{lt-ltb, le-ltb, ltb-true, ltb-false, eq-eqb, ne_eqb}
use lib.ListN.{length, get_or, drop}
use lib.Seq.{drop-cons, drop-length}
use Rattle.std.specs.Prelude.{Some, None}
use Rattle.wire.proofs.Cases.{by_test, by_order}
use Rattle.hexline.specs.Digits.{value_of, is_digit, digit_in}
use Rattle.hexline.specs.Lines.{newline}
use Rattle.hexline.specs.Reader.{byte_on, frame_on, count_on, one_more, line_end, take_from, take_of, with_digit}
use Rattle.hexline.specs.declared.Reader.{Reader}
use Rattle.hexline.specs.declared.Line.TheVariants.{Unfinished}

module _ (used : ℕ) (r : Reader) where
  pub take_nothing : take_from used r [] ≡ record { reader = r; used = used; line = Unfinished }
  unfolding take_from
  take_nothing = refl

  module _ (b : ℕ) (rest : List ℕ) where
    pub take-newline : b ≡ newline → take_from used r (b ∷ rest) ≡ line_end (used + 1) r
    unfolding take_from
    take-newline e = rw (eq-eqb _ _ e)

    pub take_byte : (b ≡ newline → ⊥) → take_from used r (b ∷ rest) ≡ take_from (used + 1) (byte_on r b) rest
    unfolding take_from
    take_byte e = rw (ne_eqb _ _ e)

module _ (frame : List ℕ) (count number b : ℕ) where
  abbrev given : Reader
  given = record { frame = frame; count = count; number = number }

  pub digit_on : count < 1024 → value_of b < 16 → byte_on given b ≡ record { frame = with_digit frame count (value_of b); count = count + 1; number = number }
  unfolding byte_on
  digit_on room digit = rw (lt-ltb _ _ room, lt-ltb _ _ digit)

  pub other_on : count < 1024 → 16 ≤ value_of b → byte_on given b ≡ record { frame = frame; count = 1025; number = number }
  unfolding byte_on
  other_on room other = rw (lt-ltb _ _ room, le-ltb _ _ other)

  pub long_on : 1024 ≤ count → byte_on given b ≡ record { frame = frame; count = 1025; number = number }
  unfolding byte_on
  long_on long = rw (le-ltb _ _ long)

  -- a byte that is a digit, of a line that has room for one, and one that is none
  pub digit_found : (v : ℕ) → count < 1024 → Some v ≡ digit_in b → record { frame = with_digit frame count v; count = count + 1; number = number } ≡ byte_on given b
  digit_found v room found =
      by_test (is_digit b)
      (λ yes-it-is.
      let same : v ≡ value_of b = let e = rw yes-it-is at found in cc in
      rw same (sym (digit_on room (ltb-true (value_of b) 16 yes-it-is))))
      (λ not-it. let e = rw not-it at found in cc)

  pub no_digit : None ≡ digit_in b → record { frame = frame; count = 1025; number = number } ≡ byte_on given b
  no_digit found =
      by_test (is_digit b)
      (λ yes-it-is. let e = rw yes-it-is at found in cc)
      (λ not-it.
      by_order count 1024
      (λ room. sym (other_on room (ltb-false (value_of b) 16 not-it)))
      (λ long. sym (long_on long)))

-- the number of the line that ends
pub next_number : (number : ℕ) → number < 2 ^ 64 → min (number + 1) (2 ^ 64 - 1) ≡ one_more number
next_number number fits =
    by_order number (2 ^ 64 - 1)
    (λ below. rw (lt-ltb number (2 ^ 64 - 1) below) (omega arith))
    (λ above. rw (le-ltb number (2 ^ 64 - 1) above) (omega arith))

-- The loop over a chunk, `at` bytes into it: from here on it makes what the call makes of the whole chunk.
pub record Reading (chunk : List ℕ) (given r : Reader) (at : ℕ) : Type 0 where
  pub inside : at ≤ length chunk
  pub same : take_from at r (drop at chunk) ≡ take_of given chunk

module _ (chunk : List ℕ) (given : Reader) where
  module _ (r : Reader) (at : ℕ) (so_far : Reading chunk given r at) where
    pub reading_ends : length chunk ≤ at → record { reader = r; used = length chunk; line = Unfinished } ≡ take_of given chunk
    reading_ends over =
        let last : at ≡ length chunk = omega arith in
        sym (take_nothing (length chunk) r)
        ∙ sym (ap₂ (λ used rest. take_from used r rest) last (ap (λ n. drop n chunk) last ∙ drop-length chunk))
        ∙ so_far.same

    module _ (more : at < length chunk) where
      next : drop at chunk ≡ get_or chunk at 0 ∷ drop (at + 1) chunk
      next = rw (add-one at) (drop-cons chunk at 0 more)

      pub reading_line : get_or chunk at 0 ≡ newline → line_end (at + 1) r ≡ take_of given chunk
      reading_line e = sym (take-newline at r _ _ e) ∙ ap (take_from at r) (sym next) ∙ so_far.same

      pub reading_byte : (get_or chunk at 0 ≡ newline → ⊥) → Reading chunk given (byte_on r (get_or chunk at 0)) (at + 1)
      reading_byte e =
          record { inside = omega arith; same = sym (take_byte at r _ _ e) ∙ ap (take_from at r) (sym next) ∙ so_far.same }

      pub reading_parts : (f : List ℕ) (k : ℕ) → f ≡ frame_on r.frame r.count (get_or chunk at 0) → k ≡ count_on r.count (get_or chunk at 0) → (get_or chunk at 0 ≡ newline → ⊥)
          → Reading chunk given (record { frame = f; count = k; number = r.number }) (at + 1)
      unfolding byte_on
      reading_parts f k digits counted e = rw (digits, counted) (reading_byte e)
