-- T-10: on each input that the plain reader accepts, it and a fresh stream agree, however the input is cut. Assumes nothing.
use mathlib.Core.Path.{◌≡◌, refl, sym, ap, ◌∙◌, subst}
use mathlib.Core.List.{List, [], ◌∷◌}
use Prim.Native.Nat.{ℕ, zero, suc, ◌+◌, ◌-◌, ◌*◌, ◌≤◌}
use native.Mathlib.Nat.{zero-add}
use native.Mathlib.Omega.{arith}
use lib.ListN.{length, take, drop, replicate, length-replicate, length-take}
use lib.Seq.{take_at, take-add, take_all}
use Rattle.wire.specs.Answers.{Accepted}
use Rattle.reading.specs.Reading.{reading}
use Rattle.reading.proofs.Readings.{counted, place_after, left_is}
use Rattle.plain.specs.Plain.{accepted, plain_of}
use Rattle.plain.proofs.Cases.{reads, accepted_passes}
use Rattle.stream.specs.Record.{fresh_of, held_bytes}
use Rattle.stream.specs.Run.{Call, AllAccepted, AllFit, pieces}
use Rattle.stream.specs.declared.Stream.{Stream}
use Rattle.stream.proofs.Cells.{take_cells}
use Rattle.stream.proofs.Cut.{however_cut}
use Rattle.stream.proofs.Resync.{pieces-accepted}
use Rattle.agree.specs.Same.{Same}

-- of the whole input, read at once
whole : (calls : List Call) (output : List ℕ) → AllAccepted fresh_of calls → Same (pieces calls) (accepted (reading (pieces calls)) output) calls
whole calls output all =
    let s = pieces calls in
    let one = however_cut calls all in
    let counts = counted s in
    let last = one.1 in
    let rest : length s - length (reading s).left ≡ place_after s = omega arith in
    record {
      frames_are = take_at (reading s).handed (drop (length (reading s).handed) output) (512 * (reading s).frames) counts.whole ∙ sym one.0;
      as_many = sym (ap (λ (l : Stream). l.frames) last ∙ zero-add (reading s).frames);
      skipped_is = sym (ap (λ (l : Stream). l.skipped) last ∙ zero-add (reading s).skipped);
      left_are = ap (λ n. drop n s) rest ∙ sym (left_is s) ∙ sym (ap held_bytes last ∙ take_cells 514 (reading s).left);
      left_is = sym (ap (λ (l : Stream). l.count) last);
    }

-- On each input that the plain reader accepts, and for every list of pieces that make it up and are accepted from a fresh stream on, with any
-- lent outputs: the same frames, the same skipped count, the same bytes left.
pub plain_agrees_with_quick : (input output : List ℕ) → (plain_of input output).answer ≡ Accepted → (calls : List Call) → pieces calls ≡ input → AllAccepted fresh_of calls → Same input (plain_of input output) calls
plain_agrees_with_quick input output is-accepted calls cut all =
    rw (reads input output (accepted_passes input output is-accepted))
    (subst (λ s. Same s (accepted (reading s) output) calls) cut (whole calls output all))

-- Every input of up to 65,536 bytes is accepted with any output that is as long,
pub every_input_is_accepted : (input output : List ℕ) → length input ≤ 65536 → length input ≤ length output → (plain_of input output).answer ≡ Accepted
every_input_is_accepted input output short room = rw (reads input output (record { short = short; room = room }))

-- n pieces of 4,096 bytes, and fewer at the end of s, each with an output that is just long enough
abbrev in_pieces : ℕ → List ℕ → List Call
in_pieces zero s = []
in_pieces (suc n) s = record { piece = take 4096 s; output = replicate 4096 0 } ∷ in_pieces n (drop 4096 s)

pieces_are : (n : ℕ) (s : List ℕ) → pieces (in_pieces n s) ≡ take (4096 * n) s
pieces_are zero s = refl
pieces_are (suc n) s =
    let more : 4096 * suc n ≡ 4096 + 4096 * n = omega arith in
    rw (more, take-add 4096 (4096 * n) s, pieces_are n (drop 4096 s))

all_fit : (n : ℕ) (s : List ℕ) → AllFit (in_pieces n s)
all_fit zero s = tt
all_fit (suc n) s =
    let size : length (replicate {A = ℕ} 4096 0) ≡ 4096 = length-replicate {A = ℕ} 4096 0 in
    (omega (arith, length-take 4096 s), omega (arith, size), all_fit n (drop 4096 s))

-- and is cut into such pieces, sixteen of them: the theorem speaks of each.
pub every_input_has_a_cutting : (input : List ℕ) → length input ≤ 65536 → (calls : List Call) × (pieces calls ≡ input) × AllAccepted fresh_of calls
every_input_has_a_cutting input short =
    let is : pieces (in_pieces 16 input) ≡ input = pieces_are 16 input ∙ take_all 65536 input short in
    (in_pieces 16 input, is, pieces-accepted (in_pieces 16 input) (all_fit 16 input) (rw is (omega arith)))
