-- What change request T-01 says of a transfer, "proved equal to that many single reads", in its own words. Assumes nothing.
use Rattle.std.specs.Prelude.{ℕ, zero, suc, ◌*◌, ◌<◌, ◌≤◌, false, ◌≡◌, List, ◌++◌, ℤ, length, take, drop}
use Rattle.wire.specs.Answers.{Answer, Accepted, accepts}
use Rattle.layout.specs.Slots.{slots, values}
use Rattle.radio_status.specs.declared.record.Status.{Status}
use Rattle.radio.specs.Read as Read
use Rattle.transfer.specs.Transfer.{Outcome, count, frame_at}

-- how the record and the two slices stand between one single read and the next
pub record Standing : Type 0 where
  pub status : Status
  pub iq : List ℤ
  pub mic : List ℤ

abbrev pub standing_in : Outcome → Standing
standing_in o = record { status = o.status; iq = o.iq; mic = o.mic }

-- the single read of frame k, on the record as it stands and on the rest of the slices
abbrev pub read_at : List ℕ → ℕ → ℕ → Standing → Read.Outcome
read_at input n k h = Read.read_of (frame_at input k) n (drop (k * values n) h.iq) (drop (k * slots n) h.mic) h.status

-- what it leaves: the record after it, and in the rest of the slices what it wrote
abbrev pub after_read : ℕ → ℕ → Standing → Read.Outcome → Standing
after_read n k h one =
    record {
      status = one.reading.status;
      iq = take (k * values n) h.iq ++ one.iq;
      mic = take (k * slots n) h.mic ++ one.mic;
    }

-- what the single reads of the first k frames leave, each on what the one before left
abbrev pub single_reads : List ℕ → ℕ → ℕ → Standing → Standing
single_reads input n zero given = given
single_reads input n (suc k) given = let before = single_reads input n k given in after_read n k before (read_at input n k before)

-- the answer of frame k's single read, after those of the frames before it
abbrev pub single_answer : List ℕ → ℕ → ℕ → Standing → Answer
single_answer input n k given = (read_at input n k (single_reads input n k given)).reading.answer

-- "It gives the number read, and is proved equal to that many single reads. It stops at the first refused frame"
pub record AsSingleReads (input : List ℕ) (n : ℕ) (given : Standing) (o : Outcome) : Type 0 where
  pub left : standing_in o ≡ single_reads input n o.frames given
  pub read : (k : ℕ) → k < o.frames → single_answer input n k given ≡ Accepted
  pub stopped : o.frames < count (length input) → (single_answer input n o.frames given ≡ o.answer) × (accepts o.answer ≡ false)
  pub finished : count (length input) ≤ o.frames → o.answer ≡ Accepted
  pub no_more : o.frames ≤ count (length input)

-- "no byte of the lent slices past their values changes"
abbrev pub Untouched : ℕ → List ℤ → List ℤ → Outcome → Type 0
Untouched n iq mic o =
    (drop (o.frames * values n) o.iq ≡ drop (o.frames * values n) iq)
    × (drop (o.frames * slots n) o.mic ≡ drop (o.frames * slots n) mic)
