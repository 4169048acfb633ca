-- The present line: what a reader holds after the bytes of a line, and what the line's end makes of it. Assumes nothing.
use mathlib.Core.Path.{◌≡◌, refl, sym, ap, ap₂, ◌∙◌}
use mathlib.Core.Bool.{Bool, true, false, cond, ◌&&◌, and-false}
use mathlib.Core.List.{List, [], ◌∷◌, ◌++◌, append-nil}
use Prim.Native.Nat.{ℕ, zero, suc, ◌+◌, ◌*◌, ◌/◌, ◌%◌, ◌<◌, ◌≤◌}
use native.Mathlib.Nat.{add-zero, zero-add}
use native.Mathlib.Omega.{arith}
use borrow.Author.Tests.{ltb-true, lt-ltb, le-ltb, ne_eqb, eqb-true}
use lib.Dec.{eqb, ltb}
use lib.ListN.{length, drop, length-append, length-set, drop_of_length-le}
use lib.Seq.{set_at, get_or_at, append_snoc}
use Rattle.wire.proofs.Cases.{by_test, by_order}
use Rattle.hexline.proofs.Steps.{digit_on}
use Rattle.wire.proofs.Cases.{both_true}
use Rattle.hexline.specs.Digits.{value_of, is_digit, all_digits, bytes_of_digits}
use Rattle.hexline.specs.Lines.{is_frame, content_of}
use Rattle.hexline.specs.Reader.{byte_on, line_end, with_digit, count_on, one_more}
use Rattle.hexline.specs.Text.{found_by}
use Rattle.hexline.specs.declared.Reader.{Reader}

abbrev held : List ℕ → ℕ → ℕ → Reader
held frame count number = record { frame = frame; count = count; number = number }

-- the bytes of a line, one after another
abbrev pub bytes_on : Reader → List ℕ → Reader
bytes_on r [] = r
bytes_on r (b ∷ line) = bytes_on (byte_on r b) line

pub one_byte_more : (r : Reader) (line : List ℕ) (b : ℕ) → bytes_on r (line ++ (b ∷ [])) ≡ byte_on (bytes_on r line) b
one_byte_more r [] b = refl
one_byte_more r (a ∷ line) b = one_byte_more (byte_on r a) line b

pub same_number : (r : Reader) (line : List ℕ) → (bytes_on r line).number ≡ r.number
unfolding byte_on
same_number r [] = refl
same_number r (b ∷ line) = same_number (byte_on r b) line

pub same_length : (r : Reader) (line : List ℕ) → length (bytes_on r line).frame ≡ length r.frame
unfolding byte_on
same_length r [] = refl
same_length r (b ∷ line) =
    same_length (byte_on r b) line
    ∙ by_test (ltb r.count 1024 && is_digit b) (λ e. rw e (length-set r.frame _ _)) (λ e. rw e)

-- The count: it comes to 1,024 exactly where the bytes are digits that bring it there.
past : (n : ℕ) → 1024 < n → eqb n 1024 ≡ false
past n h = ne_eqb n 1024 (λ e. omega arith)

count_step : (count n : ℕ) (digit rest : Bool) → rest && eqb (cond (ltb count 1024 && digit) (count + 1) 1025 + n) 1024 ≡ digit && rest && eqb (count + suc n) 1024
count_step count n digit rest =
    by_order count 1024
    (λ below.
    by_test digit
    (λ e. let same : count + 1 + n ≡ count + suc n = omega arith in rw (lt-ltb count 1024 below, e, same))
    (λ e. rw (lt-ltb count 1024 below, e, past (1025 + n) (omega arith)) (and-false rest)))
    (λ above.
    rw (le-ltb count 1024 above, past (1025 + n) (omega arith), past (count + suc n) (omega arith), and-false rest) (sym (and-false (digit && rest))))

count-whole : (r : Reader) (line : List ℕ) → eqb (bytes_on r line).count 1024 ≡ all_digits line && eqb (r.count + length line) 1024
unfolding byte_on
count-whole r [] = ap (λ n. eqb n 1024) (sym (add-zero r.count))
count-whole r (b ∷ line) = count-whole (byte_on r b) line ∙ count_step r.count (length line) (is_digit b) (all_digits line)

-- a line that has a byte is not empty
some_count : (count b : ℕ) → 0 < count_on count b
some_count count b = by_test (ltb count 1024 && is_digit b) (λ e. rw e (omega arith)) (λ e. rw e (omega arith))

some_stays : (r : Reader) (line : List ℕ) → 0 < r.count → 0 < (bytes_on r line).count
unfolding byte_on
some_stays r [] some = some
some_stays r (b ∷ line) some = some_stays (byte_on r b) line (some_count r.count b)

pub not_empty : (r : Reader) (b : ℕ) (line : List ℕ) → (bytes_on r (b ∷ line)).count ≡ 0 → ⊥
unfolding byte_on
not_empty r b line e = omega (arith, some_stays (byte_on r b) line (some_count r.count b))

-- The frame: two digits leave their byte.
two_digits : (x high low : ℕ) → high < 16 → (x * 16 % 256 + high) * 16 % 256 + low ≡ high * 16 + low
two_digits x high low h = omega arith

module _ (done : List ℕ) (x : ℕ) (rest : List ℕ) (m number : ℕ) (so-many : length done ≡ m) where
  -- a digit that goes into the byte at m, by a count of m pairs or one more
  digit_at : (count b : ℕ) → count / 2 ≡ m → count < 1024 → is_digit b ≡ true
      → byte_on (held (done ++ (x ∷ rest)) count number) b ≡ held (done ++ ((x * 16 % 256 + value_of b) ∷ rest)) (count + 1) number
  digit_at count b place room digit =
      let stored : with_digit (done ++ (x ∷ rest)) count (value_of b) ≡ done ++ ((x * 16 % 256 + value_of b) ∷ rest) =
      rw (place, get_or_at done x rest 0 m so-many) (set_at done x rest (x * 16 % 256 + value_of b) m so-many) in
      digit_on (done ++ (x ∷ rest)) count number b room (ltb-true (value_of b) 16 digit) ∙ ap (λ l. held l (count + 1) number) stored

pair_on : (done : List ℕ) (x : ℕ) (rest : List ℕ) (m number high low : ℕ) → length done ≡ m → m < 512 → is_digit high ≡ true → is_digit low ≡ true
    → byte_on (byte_on (held (done ++ (x ∷ rest)) (m + m) number) high) low
    ≡ held (done ++ ((value_of high * 16 + value_of low) ∷ rest)) (m + m + 1 + 1) number
pair_on done x rest m number high low so-many room h l =
    rw (digit_at done x rest m number so-many (m + m) high (omega arith) (omega arith) h, digit_at done (x * 16 % 256 + value_of high) rest m number so-many (m + m + 1) low (omega arith) (omega arith) l, two_digits x (value_of high) (value_of low) (ltb-true (value_of high) 16 h))

-- k pairs of digits, from the byte at m on
pairs_on : (k : ℕ) (done rest line : List ℕ) (m number : ℕ) → length done ≡ m → m + k ≤ 512 → k ≤ length rest → length line ≡ k + k → all_digits line ≡ true
    → (bytes_on (held (done ++ rest) (m + m) number) line).frame ≡ done ++ (bytes_of_digits line ++ drop k rest)
pairs_on zero done rest [] m number so-many room some pairs digits = refl
pairs_on zero done rest (a ∷ line) m number so-many room some pairs digits = absurd (omega arith)
pairs_on (suc k) done rest [] m number so-many room some pairs digits = absurd (omega arith)
pairs_on (suc k) done rest (high ∷ []) m number so-many room some pairs digits = absurd (omega arith)
pairs_on (suc k) done [] (high ∷ low ∷ line) m number so-many room some pairs digits = absurd (omega arith)
pairs_on (suc k) done (x ∷ rest) (high ∷ low ∷ line) m number so-many room some pairs digits =
    let first = both_true (is_digit high) (is_digit low && all_digits line) digits in
    let second = both_true (is_digit low) (all_digits line) first.1 in
    let byte = value_of high * 16 + value_of low in
    let longer : length (done ++ (byte ∷ [])) ≡ m + 1 = rw (length-append done (byte ∷ [])) (omega arith) in
    let next : m + m + 1 + 1 ≡ (m + 1) + (m + 1) = omega arith in
    let shape = ap₂ (λ f c. held f c number) (sym (append_snoc done byte rest)) next in
    ap (λ r. (bytes_on r line).frame) (pair_on done x rest m number high low so-many (omega arith) first.0 second.0 ∙ shape)
    ∙ pairs_on k (done ++ (byte ∷ [])) rest line (m + 1) number longer (omega arith) (omega arith) (omega arith) second.1
    ∙ append_snoc done byte (bytes_of_digits line ++ drop k rest)

-- before a line's first byte
pub record Ready (r : Reader) : Type 0 where
  pub none : r.count ≡ 0
  pub whole : length r.frame ≡ 512

module _ (r : Reader) (ready : Ready r) (line : List ℕ) where
  counted : eqb (bytes_on r line).count 1024 ≡ is_frame line
  counted = count-whole r line ∙ rw (ready.none, zero-add (length line))

  bytes_held : is_frame line ≡ true → (bytes_on r line).frame ≡ bytes_of_digits line
  bytes_held is =
      let parts = both_true (all_digits line) (eqb (length line) 1024) is in
      let long : length line ≡ 512 + 512 = eqb-true (length line) 1024 parts.1 in
      ap (λ c. (bytes_on (held r.frame c r.number) line).frame) ready.none
      ∙ pairs_on 512 [] r.frame line 0 r.number refl (omega arith) (omega arith) long parts.0
      ∙ rw (drop_of_length-le r.frame {i = 512} (omega arith)) (append-nil (bytes_of_digits line))

  -- what the end of the line finds
  pub line-found : (used : ℕ) → found_by (line_end used (bytes_on r line)) ≡ record { number = one_more r.number; content = content_of line } ∷ []
  unfolding line_end
  line-found used =
      by_test (is_frame line)
      (λ is. rw (counted, is, same_number r line, bytes_held is))
      (λ not. rw (counted, not, same_number r line))
