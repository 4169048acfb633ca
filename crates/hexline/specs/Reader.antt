-- What a reader of lines holds, and what each call makes of it. Assumes nothing.
use Rattle.std.specs.Prelude.{ℕ, ◌+◌, ◌-◌, ◌*◌, ◌/◌, ◌%◌, ◌^◌, cond, ◌&&◌, List, [], ◌∷◌, eqb, ltb, get_or, set, replicate}
use Rattle.hexline.specs.Digits.{value_of, is_digit}
use Rattle.hexline.specs.Lines.{newline}
use Rattle.hexline.specs.declared.Reader.{Reader}
use Rattle.hexline.specs.declared.Taken.{Taken}
use Rattle.hexline.specs.declared.Line.TheVariants.{Unfinished, Frame, Length}

abbrev pub fresh_reader : Reader
fresh_reader = record { frame = replicate 512 0; count = 0; number = 0 }

-- a digit moves into its byte from the right, so that the second of two leaves the byte that they stand for
abbrev pub with_digit : List ℕ → ℕ → ℕ → List ℕ
with_digit frame count value = set frame (count / 2) (get_or frame (count / 2) 0 * 16 % 256 + value)

-- the digits of a line, one byte on: from 1,025 there is no way back
abbrev pub count_on : ℕ → ℕ → ℕ
count_on count b = cond (ltb count 1024 && is_digit b) (count + 1) 1025

abbrev pub frame_on : List ℕ → ℕ → ℕ → List ℕ
frame_on frame count b = cond (ltb count 1024 && is_digit b) (with_digit frame count (value_of b)) frame

-- one byte more of the present line
unfoldable pub byte_on : Reader → ℕ → Reader
byte_on r b = record { frame = frame_on r.frame r.count b; count = count_on r.count b; number = r.number }

-- lines are numbered from 1; the number of a line past 2^64 - 1 stays there
abbrev pub one_more : ℕ → ℕ
one_more number = cond (ltb number (2 ^ 64 - 1)) (number + 1) number

-- the present line ends
unfoldable pub line_end : ℕ → Reader → Taken
line_end used r =
    record {
      reader = record { frame = r.frame; count = 0; number = one_more r.number };
      used = used;
      line = cond (eqb r.count 1024) Frame Length;
    }

-- the chunk is read up to the first newline, or to its own end; `used` bytes of it stood before `rest`
unfoldable pub take_from : ℕ → Reader → List ℕ → Taken
take_from used r [] = record { reader = r; used = used; line = Unfinished }
take_from used r (b ∷ rest) = cond (eqb b newline) (line_end (used + 1) r) (take_from (used + 1) (byte_on r b) rest)

abbrev pub take_of : Reader → List ℕ → Taken
take_of r chunk = take_from 0 r chunk

-- a last line without a newline counts if it is not empty
abbrev pub end_of : Reader → Taken
end_of r = cond (eqb r.count 0) (record { reader = r; used = 0; line = Unfinished }) (line_end 0 r)
