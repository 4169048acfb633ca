-- The text of a row, cut where the code cuts it, and how long its parts are. Assumes nothing.
use mathlib.Core.Path.{◌≡◌, refl, sym, ap, ◌∙◌}
use mathlib.Core.Bool.{Bool, true, false}
use mathlib.Core.List.{List, [], ◌∷◌, ◌++◌, append_assoc}
use Prim.Native.Nat.{ℕ, ◌+◌, ◌<◌, ◌≤◌, ◌^◌}
use native.Mathlib.Omega.{arith}
use borrow.Author.Tests.{eq-eqb, ne_eqb, lt-ltb, le-ltb}
use lib.ListN.{length, length-append}
use mir.Val.{bool_byte}
use Rattle.std.specs.Prelude.{Result, Ok, Err}
use Rattle.wire.specs.declared.Refusal.{Refusal}
use Rattle.wire.specs.Answers.{Answer, Accepted, number_of}
use Rattle.wire.proofs.First.{few_numbers, only_accepted}
use Rattle.wire.specs.Fields.{flag}
use Rattle.hexline.specs.Lines.{newline}
use Rattle.text.specs.Numbers.{decimal_of}
use Rattle.text.specs.Put.{gave, put_of}
use Rattle.text.proofs.Numbers.{one_digit_lem, decimal-length}
use Rattle.text.proofs.Puts.{put_start}
use Rattle.hexline.specs.Printed.{space, hyphen, spaced, ended, accepted_columns, refused_columns, text_of, row_of, row_for}
use Rattle.hexline.specs.declared.print.Columns.{Columns}

-- a flag as Rust has it
pub bit_flag : (b : Bool) → bool_byte b ≡ flag b
bit_flag true = refl
bit_flag false = refl

flag-digit : (b : Bool) → decimal_of (flag b) ≡ (0x30 + flag b) ∷ []
flag-digit true = one_digit_lem 1 (omega arith)
flag-digit false = one_digit_lem 0 (omega arith)

byte-length : (n : ℕ) → n < 256 → length (decimal_of n) ≤ 3
byte-length n h = decimal-length 2 n (omega arith)

pub number-length : (n : ℕ) → n < 2 ^ 64 → length (decimal_of n) ≤ 20
number-length n h = decimal-length 19 n (omega arith)

-- what is printed after the address
abbrev pub flags_text : ℕ → ℕ → ℕ → List ℕ
flags_text dot dash ptt = space ∷ dot ∷ space ∷ dash ∷ space ∷ ptt ∷ newline ∷ []

module _ (address : ℕ) (dot dash ptt : Bool) where
  -- what is printed after an accepted line's answer
  abbrev pub accepted_text : List ℕ
  accepted_text = space ∷ ended (spaced (accepted_columns address dot dash ptt))

  pub address_first : accepted_text ≡ (space ∷ decimal_of address) ++ flags_text (0x30 + flag dot) (0x30 + flag dash) (0x30 + flag ptt)
  address_first =
      rw (flag-digit dot, flag-digit dash, flag-digit ptt)
      (ap (λ l. space ∷ l) (append_assoc (decimal_of address) _ (newline ∷ [])))

  accepted_length : length accepted_text ≡ length (decimal_of address) + 8
  accepted_length = ap length address_first ∙ rw (length-append (space ∷ decimal_of address) (flags_text (0x30 + flag dot) (0x30 + flag dash) (0x30 + flag ptt))) (omega arith)

  pub accepted_short : address < 256 → length accepted_text ≤ 11
  accepted_short byte = omega (arith, accepted_length, byte-length address byte)

-- the columns that follow the first two
after_two : (a b w : List ℕ) (ws : List (List ℕ)) → ended (spaced (a ∷ b ∷ w ∷ ws)) ≡ (a ++ (space ∷ b)) ++ (space ∷ ended (spaced (w ∷ ws)))
after_two a b w ws =
    append_assoc a _ (newline ∷ []) ∙ ap (λ l. a ++ (space ∷ l)) (append_assoc b _ (newline ∷ [])) ∙ sym (append_assoc a (space ∷ b) _)

abbrev pub first_two : ℕ → Answer → List ℕ
first_two number answer = decimal_of number ++ (space ∷ decimal_of (number_of answer))

-- what is printed after a refused line's answer
abbrev pub refused_text : List ℕ
refused_text = space ∷ ended (spaced refused_columns)

module _ (number : ℕ) (answer : Answer) (address : ℕ) (dot dash ptt : Bool) where
  accepted_text_lem : number_of answer ≡ 0 → text_of number answer address dot dash ptt ≡ first_two number answer ++ accepted_text address dot dash ptt
  unfolding text_of
  accepted_text_lem e =
      rw (eq-eqb (number_of answer) 0 e)
      (after_two (decimal_of number) (decimal_of (number_of answer)) (decimal_of address) (decimal_of (flag dot) ∷ decimal_of (flag dash) ∷ decimal_of (flag ptt) ∷ []))

  refused_text_lem : (number_of answer ≡ 0 → ⊥) → text_of number answer address dot dash ptt ≡ first_two number answer ++ refused_text
  unfolding text_of
  refused_text_lem e = rw (ne_eqb (number_of answer) 0 e) (after_two (decimal_of number) (decimal_of (number_of answer)) hyphen (hyphen ∷ hyphen ∷ hyphen ∷ []))

first_two_length : (number : ℕ) (answer : Answer) → number < 2 ^ 64 → length (first_two number answer) ≤ 24
first_two_length number answer fits =
    rw (length-append (decimal_of number) (space ∷ decimal_of (number_of answer)))
    (omega (arith, number-length number fits, byte-length (number_of answer) (omega (arith, few_numbers answer))))

-- the first two columns, and the rest, at the start of a slice that has room for a row
row_whole : (number : ℕ) (answer : Answer) (address : ℕ) (dot dash ptt : Bool) (out rest : List ℕ) {r : ℕ} {after : List ℕ} → 64 ≤ length out → number < 2 ^ 64 → length rest ≤ 11
    → text_of number answer address dot dash ptt ≡ first_two number answer ++ rest → gave r after ≡ put_of out 0 (first_two number answer ++ rest)
    → gave r after ≡ row_of number answer address dot dash ptt out
unfolding row_of
row_whole number answer address dot dash ptt out rest room fits short e put =
    let inside : length (first_two number answer ++ rest) ≤ length out =
    rw (length-append (first_two number answer) rest) (omega (arith, first_two_length number answer fits)) in
    rw (le-ltb (length out) 64 room, e) (put ∙ put_start out (first_two number answer ++ rest) inside)

module _ (number : ℕ) (out : List ℕ) {r : ℕ} {after : List ℕ} (room : 64 ≤ length out) (fits : number < 2 ^ 64) where
  pub row_read : (c : Columns) → c.address < 256 → gave r after ≡ put_of out 0 (first_two number Accepted ++ accepted_text c.address c.dot c.dash c.ptt)
      → gave r after ≡ row_for number (Ok c) out
  row_read c byte =
      row_whole number Accepted c.address c.dot c.dash c.ptt out (accepted_text c.address c.dot c.dash c.ptt) room fits (accepted_short c.address c.dot c.dash c.ptt byte)
      (accepted_text_lem number Accepted c.address c.dot c.dash c.ptt refl)

  pub row_refused : (e : Refusal) → gave r after ≡ put_of out 0 (first_two number (Err e) ++ refused_text) → gave r after ≡ row_for number (Err e) out
  row_refused e =
      row_whole number (Err e) 0 false false false out refused_text room fits (omega arith)
      (refused_text_lem number (Err e) 0 false false false (λ zero. let none = only_accepted (Err e) zero in cc))

pub row_short : (number : ℕ) (answer : Answer) (address : ℕ) (dot dash ptt : Bool) (out : List ℕ) → length out < 64 → gave 0 out ≡ row_of number answer address dot dash ptt out
unfolding row_of
row_short number answer address dot dash ptt out short = rw (lt-ltb (length out) 64 short)

pub for_short : (number : ℕ) (read : Result Columns Refusal) (out : List ℕ) → length out < 64 → gave 0 out ≡ row_for number read out
for_short number (Ok c) out short = row_short number _ _ _ _ _ out short
for_short number (Err e) out short = row_short number _ _ _ _ _ out short

-- of a refusal its number alone
pub refused_alone : (number : ℕ) (e : Refusal) (address : ℕ) (dot dash ptt : Bool) → text_of number (Err e) 0 false false false ≡ text_of number (Err e) address dot dash ptt
refused_alone number e address dot dash ptt =
    let other : number_of (Err e) ≡ 0 → ⊥ = λ zero. let none = only_accepted (Err e) zero in cc in
    refused_text_lem number (Err e) 0 false false false other ∙ sym (refused_text_lem number (Err e) address dot dash ptt other)
