-- "A fresh status record is what all-zero words give": five frames, one for each word, whose bytes C1 to C4 are 0 and whose keys
-- are off, read into any record, leave the fresh one. Assumes nothing.
use mathlib.Core.Path.{◌≡◌, refl, ap}
use mathlib.Core.List.{List}
use Prim.Native.Nat.{ℕ, ◌*◌, ◌<◌}
use native.Mathlib.Omega.{arith}
use lib.IntN.{ℤ}
use lib.ListN.{length}
use Rattle.wire.specs.Answers.{Accepted}
use Rattle.radio_status.specs.Record.{fresh_status}
use Rattle.radio_status.specs.Words.{word_of, applied}
use Rattle.radio_status.specs.declared.record.Status.{Status}
use Rattle.radio.specs.Read.{byte, after, answer_of, read_of}
use Rattle.radio.proofs.Cases.{read_taken}

-- word w, all zero; the address stands above bit 2 of C0
pub record ZeroWord (w : ℕ) (frame : List ℕ) : Type 0 where
  pub c0 : byte frame 3 ≡ w * 8
  pub c1 : byte frame 4 ≡ 0
  pub c2 : byte frame 5 ≡ 0
  pub c3 : byte frame 6 ≡ 0
  pub c4 : byte frame 7 ≡ 0

abbrev zeroed : ℕ → Status → Status
zeroed w s = applied (w * 8) (word_of (w * 8) 0 0 0 0) s

after-zero : (w : ℕ) (frame : List ℕ) → ZeroWord w frame → (s : Status) → after frame s ≡ zeroed w s
after-zero w frame z s = rw (z.c0, z.c1, z.c2, z.c3, z.c4)

five-zeroed : (s : Status) → zeroed 4 (zeroed 3 (zeroed 2 (zeroed 1 (zeroed 0 s)))) ≡ fresh_status
unfolding applied
five-zeroed s = refl

pub zero_words_give_fresh : (frames : ℕ → List ℕ) → ((w : ℕ) → w < 5 → ZeroWord w (frames w)) → (s : Status) → after (frames 4) (after (frames 3) (after (frames 2) (after (frames 1) (after (frames 0) s)))) ≡ fresh_status
zero_words_give_fresh frames zero s =
    rw (after-zero 0 (frames 0) (zero 0 (omega arith)) s, after-zero 1 (frames 1) (zero 1 (omega arith)), after-zero 2 (frames 2) (zero 2 (omega arith)), after-zero 3 (frames 3) (zero 3 (omega arith)), after-zero 4 (frames 4) (zero 4 (omega arith)))
    (five-zeroed s)

-- the same of five reads, each accepted, with whatever slices are lent
module _ (frames : ℕ → List ℕ) (n : ℕ) (iq mic : ℕ → List ℤ) (accepted : (w : ℕ) → w < 5 → answer_of (frames w) n (length (iq w)) (length (mic w)) ≡ Accepted) where
  abbrev status_after_lem : ℕ → Status → Status
  status_after_lem w s = (read_of (frames w) n (iq w) (mic w) s).reading.status

  one_read : (w : ℕ) → w < 5 → (s : Status) → status_after_lem w s ≡ after (frames w) s
  one_read w below s = ap (λ o. o.reading.status) (read_taken (frames w) n (iq w) (mic w) s (accepted w below))

  pub five_reads_give_fresh : ((w : ℕ) → w < 5 → ZeroWord w (frames w)) → (s : Status) → status_after_lem 4 (status_after_lem 3 (status_after_lem 2 (status_after_lem 1 (status_after_lem 0 s)))) ≡ fresh_status
  five_reads_give_fresh zero s =
      rw (one_read 0 (omega arith) s, one_read 1 (omega arith), one_read 2 (omega arith), one_read 3 (omega arith), one_read 4 (omega arith))
      (zero_words_give_fresh frames zero s)
