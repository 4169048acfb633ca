-- A reading under way: what the loop of a reader keeps true from place to place. Assumes nothing.
use mathlib.Core.Path.{◌≡◌, refl, sym, ap, ◌∙◌, subst}
use mathlib.Core.Bool.{true, false}
use mathlib.Core.List.{List, [], ◌++◌, append-nil}
use Prim.Native.Nat.{ℕ, ◌+◌, ◌-◌, ◌*◌, ◌<◌, ◌≤◌, max}
use native.Mathlib.Nat.{add-zero}
use native.Mathlib.Omega.{arith}
use lib.ListN.{length, take, drop, length-drop, take-append-drop}
use lib.Seq.{drop-drop, length-take-le, sets, length-sets}
use Rattle.wire.proofs.Cases.{by_order}
use Rattle.wire.proofs.Copies.{take_sets, drop_sets}
use Rattle.reading.proofs.InARow.{skips, skips_in_a_row}
use Rattle.reading.proofs.NoneGood.{NoneGood, none_yet, one_more}
use Rattle.reading.proofs.Readings.{good-long, good-drop, good-here, leaving-then, reading-on, reading-few, reading-good}
use Rattle.reading.specs.Reading.{good, Reading, leaving, frame, ◌and_then◌, reading}

-- what has been read at a place: the frames stand at the start of the output, and what is no frame was skipped
abbrev so_far : List ℕ → ℕ → ℕ → Reading
so_far output frames place =
    record { frames = frames; handed = take (512 * frames) output; skipped = place - 512 * frames; left = [] }

pub record Far (s output₀ output : List ℕ) (frames place : ℕ) : Type 0 where
  pub so_far_lem : reading s ≡ so_far output frames place and_then reading (drop place s)
  pub in_list : place ≤ length s
  pub whole : 512 * frames ≤ place
  pub remainder : drop (512 * frames) output ≡ drop (512 * frames) output₀
  pub as_long : length output ≡ length output₀
  pub room : 512 * frames ≤ length output

-- and at its end: the frames at the start of the output are all there are, and what is left begins at the place
pub record AllRead (s output₀ output : List ℕ) (frames place : ℕ) : Type 0 where
  pub frames_is : frames ≡ (reading s).frames
  pub skipped_is : place - 512 * frames ≡ (reading s).skipped
  pub left_is : drop place s ≡ (reading s).left
  pub output_is : output ≡ (reading s).handed ++ drop (length (reading s).handed) output₀

pub far_start : (s output : List ℕ) → Far s output output 0 0
far_start s output =
    record { so_far_lem = sym (leaving-then [] (reading s)); in_list = omega arith; whole = omega arith; remainder = refl; as_long = refl; room = omega arith }

module _ {s output₀ output : List ℕ} {frames place : ℕ} (far : Far s output₀ output frames place) where
  -- one step more, of k bytes
  on : (first : Reading) (k : ℕ) (next : Reading) → reading (drop place s) ≡ first and_then reading (drop k (drop place s)) → so_far output frames place and_then first ≡ next → reading s ≡ next and_then reading (drop (place + k) s)
  on first k next step more =
      reading-on s place k (so_far output frames place) first far.so_far_lem step
      ∙ ap (λ r. r and_then reading (drop (place + k) s)) more

  -- past places of which none begins a good frame
  pub far_skips : (next : ℕ) → place ≤ next → next ≤ max place (length s - 514) → NoneGood s place next → Far s output₀ output frames next
  far_skips next low high none =
      by_order place next
      (λ some.
      let n = next - place in
      let rest : length (drop place s) ≡ length s - place = length-drop place s in
      let past : place + n ≡ next = omega arith in
      let skipped : place - 512 * frames + n ≡ place + n - 512 * frames = omega (arith, far.whole) in
      subst (Far s output₀ output frames) past
      record {
        so_far_lem =
            on (skips n) n (so_far output frames (place + n))
            (skips_in_a_row n (drop place s) (omega arith) (λ k below. good-drop place s k ∙ none.none (place + k) (omega arith) (omega arith)))
            (rw (skipped, add-zero frames, append-nil (take (512 * frames) output)));
        in_list = omega arith;
        whole = omega (arith, far.whole);
        remainder = far.remainder;
        as_long = far.as_long;
        room = far.room;
      })
      (λ stays. let is : place ≡ next = omega arith in subst (Far s output₀ output frames) is far)

  -- past one of them
  pub far_skip : good s place ≡ false → place + 515 ≤ length s → Far s output₀ output frames (place + 1)
  far_skip none enough = far_skips (place + 1) (omega arith) (omega arith) (one_more (none_yet s place) none)

  -- the bytes from the place to 512 past it, behind those that stand at the start of the output
  pub far-good : good s place ≡ true → 512 * frames + 512 ≤ length output → Far s output₀ (sets output (512 * frames) (take 512 (drop place s))) (frames + 1) (place + 512)
  far-good begins room =
      let bytes = take 512 (drop place s) in
      let long = good-long s place begins in
      let all : length bytes ≡ 512 = length-take-le 512 (drop place s) (rw (length-drop place s) (omega arith)) in
      let next : 512 * (frames + 1) ≡ 512 * frames + 512 = omega arith in
      let none : place - 512 * frames + 0 ≡ place + 512 - (512 * frames + 512) = omega (arith, far.whole) in
      let end : 512 * frames + 512 ≡ 512 * frames + length bytes = omega arith in
      let handed : take (512 * frames + 512) (sets output (512 * frames) bytes) ≡ take (512 * frames) output ++ bytes =
      rw end (take_sets output (512 * frames) bytes (omega arith)) in
      let kept : drop (512 * frames + 512) (sets output (512 * frames) bytes) ≡ drop (512 * frames + 512) output =
      rw end (drop_sets output (512 * frames) bytes (omega arith)) in
      record {
        so_far_lem =
            on (frame bytes) 512 (so_far (sets output (512 * frames) bytes) (frames + 1) (place + 512)) (reading-good (drop place s) (good-here s place ∙ begins))
            (rw (next, handed, none));
        in_list = omega arith;
        whole = omega (arith, far.whole);
        remainder =
            rw (next, kept, ← drop-drop 512 (512 * frames) output, far.remainder)
            (drop-drop 512 (512 * frames) output₀);
        as_long = length-sets output (512 * frames) bytes ∙ far.as_long;
        room = omega (arith, length-sets output (512 * frames) bytes);
      }

  -- where fewer than 515 bytes remain
  pub far_end : length s < place + 515 → AllRead s output₀ output frames place
  far_end few =
      let done : reading s ≡ so_far output frames place and_then leaving (drop place s) =
      far.so_far_lem ∙ rw (reading-few (drop place s) (rw (length-drop place s) (omega arith))) in
      let long : length (take (512 * frames) output) ≡ 512 * frames = length-take-le (512 * frames) output far.room in
      record {
        frames_is = rw done (omega arith);
        skipped_is = rw done (omega arith);
        left_is = rw done;
        output_is = rw (done, append-nil (take (512 * frames) output), long, ← far.remainder) (sym (take-append-drop (512 * frames) output));
      }
