-- What is printed for the calls on an input, however it is cut, is the text of one reading of the whole of it. The end of an input is no
-- call, so that no frame is printed there that the reading does not hand out. Assumes nothing.
use mathlib.Core.Path.{◌≡◌, refl, sym, ap, ◌∙◌}
use mathlib.Core.List.{List, [], ◌∷◌, ◌++◌}
use Prim.Native.Nat.{ℕ, ◌+◌, ◌-◌, ◌*◌}
use native.Mathlib.Omega.{arith}
use lib.ListN.{length, take, drop, length-append}
use lib.Seq.{take_at}
use Rattle.reading.specs.Reading.{reading}
use Rattle.stream.specs.Record.{fresh_of, held_bytes}
use Rattle.stream.specs.Run.{Call, called, AllAccepted, pieces, handed_out}
use Rattle.stream.specs.declared.Stream.{Stream}
use Rattle.stream.proofs.Calls.{by_outcome}
use Rattle.stream.proofs.Cut.{however_cut}
use Rattle.reading.proofs.Readings.{counted}
use Rattle.framed.specs.Hexadecimal.{lines_of}
use Rattle.framed.specs.Texts.{printed_by}
use Rattle.framed.proofs.Joined.{no_frames, lines_taken, lines_joined}

-- the frames of a call stand whole at the start of its output
call-frames : (given : Stream) (call : Call) → length (take (512 * (called given call).frames) (called given call).output) ≡ 512 * (called given call).frames
call-frames given call =
    by_outcome given call.piece call.output (λ o. length (take (512 * o.frames) o.output) ≡ 512 * o.frames) (λ refusal e. refl)
    (λ passes.
    let r = reading (held_bytes given ++ call.piece) in
    let whole = (counted (held_bytes given ++ call.piece)).whole in
    ap length (take_at r.handed (drop (length r.handed) call.output) (512 * r.frames) whole) ∙ whole)

printed_lines : (calls : List Call) (given : Stream) (n : ℕ) → length (handed_out given calls) ≡ 512 * n → printed_by given calls ≡ lines_of n (handed_out given calls)
printed_lines [] given n none = let zero-frames : n ≡ 0 = omega arith in rw zero-frames (sym (no_frames []))
printed_lines (call ∷ calls) given n long =
    let o = called given call in
    let rest = handed_out o.next calls in
    let first = take (512 * o.frames) o.output in
    let whole = call-frames given call in
    let sum : length first + length rest ≡ 512 * n = sym (length-append first rest) ∙ long in
    let all : n ≡ o.frames + (n - o.frames) = omega arith in
    ap (λ l. lines_of o.frames o.output ++ l) (printed_lines calls o.next (n - o.frames) (omega arith))
    ∙ ap (λ l. l ++ lines_of (n - o.frames) rest) (lines_taken o.frames o.output whole)
    ∙ sym (lines_joined o.frames (n - o.frames) first rest whole)
    ∙ ap (λ m. lines_of m (first ++ rest)) (sym all)

pub whole_input : (calls : List Call) → AllAccepted fresh_of calls → printed_by fresh_of calls ≡ lines_of (reading (pieces calls)).frames (reading (pieces calls)).handed
whole_input calls accepted =
    let handed = (however_cut calls accepted).0 in
    let n = (reading (pieces calls)).frames in
    printed_lines calls fresh_of n (ap length handed ∙ (counted (pieces calls)).whole) ∙ ap (lines_of n) handed
