-- Where a frame stood: a piece of at most 512 bytes hands out at most one frame, and the counts tell its place in all that was fed.
-- Assumes nothing.
use mathlib.Core.Path.{◌≡◌, sym, ap, ◌∙◌, subst⁻¹}
use mathlib.Core.List.{List, ◌++◌, append-nil}
use Prim.Native.Nat.{ℕ, ◌+◌, ◌*◌, ◌≤◌}
use native.Mathlib.Nat.{zero-add}
use native.Mathlib.Omega.{arith}
use lib.ListN.{length, take, drop, length-append, length-drop, length-take}
use lib.Seq.{drop-drop, drop-append-le, take_at}
use Rattle.wire.specs.Answers.{Accepted}
use Rattle.stream.proofs.Calls.{by_outcome, fed, accepted_passes}
use Rattle.stream.proofs.Cells.{take_cells}
use Rattle.stream.proofs.Cut.{however_cut}
use Rattle.reading.proofs.Readings.{reading-few, reading-good, reading_none, reading_ind, counted, place_after, left_is}
use Rattle.stream.specs.Feed.{feed_of}
use Rattle.reading.specs.Reading.{Reading, reading}
use Rattle.stream.specs.Record.{fresh_of, held_bytes}
use Rattle.stream.specs.Run.{Call, called, AllAccepted, pieces, last_of}
use Rattle.stream.specs.declared.Stream.{Stream}

-- what is skipped stands before the frame: to skip a byte behind it 515 more are wanted
abbrev Placed : List ℕ → Type 0
Placed s = length s ≤ 1026 → (reading s).frames ≡ 1 → (reading s).handed ≡ take 512 (drop (reading s).skipped s)

placed : (s : List ℕ) → Placed s
placed =
    reading_ind Placed (λ s few short one. absurd (omega (arith, one, ap (λ (r : Reading). r.frames) (reading-few s few))))
    (λ s here rest short one. rw (reading-good s here, reading-few (drop 512 s) (rw (length-drop 512 s) (omega arith))) (append-nil (take 512 s)))
    (λ s enough none rest short one.
    let later =
    rest (rw (length-drop 1 s) (omega arith)) (omega (arith, one, ap (λ (r : Reading). r.frames) (reading_none s enough none))) in
    rw (reading_none s enough none) (later ∙ ap (take 512) (drop-drop (reading (drop 1 s)).skipped 1 s)))

-- what was left of x, and then y: the frame's place in both
placed_in_all : (x y : List ℕ) → length ((reading x).left ++ y) ≤ 1026 → (reading ((reading x).left ++ y)).frames ≡ 1
    → (reading ((reading x).left ++ y)).handed ≡ take 512 (drop (place_after x + (reading ((reading x).left ++ y)).skipped) (x ++ y))
placed_in_all x y short one =
    let counts = counted x in
    let bytes : (reading x).left ++ y ≡ drop (place_after x) (x ++ y) =
    ap (λ l. l ++ y) (left_is x) ∙ sym (drop-append-le (place_after x) x y (omega arith)) in
    let skipped = (reading ((reading x).left ++ y)).skipped in
    placed ((reading x).left ++ y) short one ∙ ap (λ l. take 512 (drop skipped l)) bytes ∙ ap (take 512) (drop-drop skipped (place_after x) (x ++ y))

-- from every record
pub at_most_one : (given : Stream) (piece output : List ℕ) → length piece ≤ 512 → (feed_of given piece output).frames ≤ 1
at_most_one given piece output short =
    by_outcome given piece output (λ o. o.frames ≤ 1) (λ refusal e. omega arith)
    (λ passes.
    let counts = counted (held_bytes given ++ piece) in
    omega (arith, length-append (held_bytes given) piece, length-take given.count given.held))

-- a record that has read x
record HasRead (given : Stream) (x : List ℕ) : Type 0 where
  frames_are : given.frames ≡ (reading x).frames
  skipped_is : given.skipped ≡ (reading x).skipped
  holds : held_bytes given ≡ (reading x).left

module _ (given : Stream) (call : Call) where
  abbrev given_frame : Type 0
  given_frame = ((called given call).answer ≡ Accepted) × ((called given call).frames ≡ 1)

  placed_from : (x : List ℕ) → HasRead given x → length call.piece ≤ 512 → given_frame
      → take 512 (called given call).output ≡ take 512 (drop (512 * given.frames + (called given call).next.skipped) (x ++ call.piece))
  placed_from x read short (accepted, one) =
      let bytes = held_bytes given ++ call.piece in
      let passes = accepted_passes given call.piece call.output accepted in
      let is-fed = fed given call.piece call.output passes in
      let single : (reading bytes).frames ≡ 1 = rw is-fed at one in
      let counts = counted bytes in
      let few : length bytes ≤ 1026 = omega (arith, length-append (held_bytes given) call.piece, length-take given.count given.held) in
      let place : place_after x + (reading bytes).skipped ≡ 512 * given.frames + (given.skipped + (reading bytes).skipped) = omega (arith, read.frames_are, read.skipped_is) in
      let told : (reading bytes).handed ≡ take 512 (drop (place_after x + (reading bytes).skipped) (x ++ call.piece)) =
      subst⁻¹ (λ (h : List ℕ). length (h ++ call.piece) ≤ 1026 → (reading (h ++ call.piece)).frames ≡ 1 → (reading (h ++ call.piece)).handed ≡ take 512 (drop (place_after x + (reading (h ++ call.piece)).skipped) (x ++ call.piece))) read.holds (placed_in_all x call.piece) few single in
      rw (is-fed, take_at (reading bytes).handed (drop (length (reading bytes).handed) call.output) 512 (omega arith)) (told ∙ ap (λ n. take 512 (drop n (x ++ call.piece))) place)

-- After any accepted calls from a fresh stream: the frame that a call with a piece of at most 512 bytes hands out stands, in all that was
-- fed, after the frames before it and all the bytes skipped so far.
pub place_told_lem : (calls : List Call) (call : Call) → AllAccepted fresh_of calls → length call.piece ≤ 512 → (called (last_of fresh_of calls) call).answer ≡ Accepted → (called (last_of fresh_of calls) call).frames ≡ 1
    → take 512 (called (last_of fresh_of calls) call).output
    ≡ take 512 (drop (512 * (last_of fresh_of calls).frames + (called (last_of fresh_of calls) call).next.skipped) (pieces calls ++ call.piece))
place_told_lem calls call before short accepted one =
    let last = (however_cut calls before).1 in
    let all = pieces calls in
    placed_from (last_of fresh_of calls) call all
    (record {
      frames_are = ap (λ (s : Stream). s.frames) last ∙ zero-add (reading all).frames;
      skipped_is = ap (λ (s : Stream). s.skipped) last ∙ zero-add (reading all).skipped;
      holds = ap held_bytes last ∙ take_cells 514 (reading all).left;
    })
    short
    (accepted, one)
