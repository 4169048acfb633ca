-- A word changes the fields it carries and no others: DOT, DASH and PTT follow every word, and whatever record a word is read
-- into, the fields that it does not carry come out as they went in. Assumes nothing.
use mathlib.Core.Path.{◌≡◌, refl, ap}
use Prim.Native.Nat.{ℕ, zero, suc, ◌≤◌}
use native.Mathlib.Omega.{arith}
use borrow.Author.Tests.{ne_eqb}
use Rattle.radio_status.specs.Carried.{fields_of, carries, unmarked}
use Rattle.radio_status.specs.Words.{applied, dot_of, dash_of, ptt_of, word_at, word_number}
use Rattle.radio_status.specs.declared.record.Status.{Status}
use Rattle.radio_status.specs.declared.words.Word.{Word}
use Rattle.radio_status.specs.declared.words.Word.TheVariants.{Input, Forward, Reverse, Supply, Board, Unlisted}

pub others_unchanged : (w : Word) (c0 : ℕ) (s : Status) → unmarked (carries w) (fields_of (applied c0 w s)) ≡ unmarked (carries w) (fields_of s)
unfolding applied
others_unchanged (Input w) c0 s = refl
others_unchanged (Forward l) c0 s = refl
others_unchanged (Reverse l) c0 s = refl
others_unchanged (Supply l) c0 s = refl
others_unchanged (Board w) c0 s = refl
others_unchanged (Unlisted a) c0 s = refl

pub keys_follow : (w : Word) (c0 : ℕ) (s : Status) → ((applied c0 w s).dot ≡ dot_of c0) × ((applied c0 w s).dash ≡ dash_of c0) × ((applied c0 w s).ptt ≡ ptt_of c0)
unfolding applied
keys_follow (Input w) c0 s = (refl, refl, refl)
keys_follow (Forward l) c0 s = (refl, refl, refl)
keys_follow (Reverse l) c0 s = (refl, refl, refl)
keys_follow (Supply l) c0 s = (refl, refl, refl)
keys_follow (Board w) c0 s = (refl, refl, refl)
keys_follow (Unlisted a) c0 s = (refl, refl, refl)

pub unlisted : (at c1 c2 c3 c4 : ℕ) → 5 ≤ at → word_at at c1 c2 c3 c4 ≡ Unlisted at
unlisted at c1 c2 c3 c4 past =
    rw (ne_eqb at 0 (λ e. omega arith), ne_eqb at 1 (λ e. omega arith), ne_eqb at 2 (λ e. omega arith), ne_eqb at 3 (λ e. omega arith), ne_eqb at 4 (λ e. omega arith))

-- the word that is told is the one that the frame addressed
pub word_addressed : (at c1 c2 c3 c4 : ℕ) → word_number (word_at at c1 c2 c3 c4) ≡ at
word_addressed zero c1 c2 c3 c4 = refl
word_addressed (suc zero) c1 c2 c3 c4 = refl
word_addressed (suc (suc zero)) c1 c2 c3 c4 = refl
word_addressed (suc (suc (suc zero))) c1 c2 c3 c4 = refl
word_addressed (suc (suc (suc (suc zero)))) c1 c2 c3 c4 = refl
word_addressed (suc (suc (suc (suc (suc at))))) c1 c2 c3 c4 = ap word_number (unlisted (suc (suc (suc (suc (suc at))))) c1 c2 c3 c4 (omega arith))
