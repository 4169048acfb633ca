-- T-05: what the lines about an input are made of. Assumes nothing.
use Rattle.std.specs.Prelude.{ℕ, ◌-◌, cond, List, ◌++◌, eqb}
use Rattle.text.specs.Numbers.{commas, hex_of}
use Rattle.sentences.specs.Words.{byte_word, bytes_word, to_word, is_word, not_sync}

-- a label, and a number
abbrev pub labelled_of : List ℕ → ℕ → List ℕ
labelled_of label n = label ++ commas n

-- " is 33 and not 7F", which ends the line
abbrev pub wrong_of : ℕ → List ℕ
wrong_of value = is_word ++ hex_of value ++ not_sync

-- one of a thing, or several
abbrev pub counted_of : ℕ → List ℕ → List ℕ → List ℕ
counted_of n one many = commas n ++ cond (eqb n 1) one many

-- the places from `start` to before `end`, and what is said of one place or of several
abbrev pub subject_of : ℕ → ℕ → List ℕ → List ℕ → List ℕ
subject_of start end one many =
    cond (eqb (end - start) 1) (labelled_of byte_word start ++ one) (labelled_of bytes_word start ++ labelled_of to_word (end - 1) ++ many)
