-- How long the windows are, and all that is shown for a place. Assumes nothing.
use mathlib.Core.Path.{◌≡◌}
use mathlib.Core.Bool.{Bool, true, false}
use mathlib.Core.List.{List, []}
use Prim.Native.Nat.{ℕ, ◌+◌, ◌-◌, ◌*◌, ◌≤◌}
use native.Mathlib.Omega.{arith}
use borrow.Author.Tests.{ltb-false, lt-ltb, le-ltb}
use lib.Dec.{eqb}
use lib.ListN.{length, get_or, length-append}
use Rattle.wire.proofs.Cases.{by_order}
use Rattle.wire.proofs.Lists.{length-tabs}
use Rattle.text.proofs.Numbers.{hex-length}
use Rattle.why.specs.declared.Reason.{Reason}
use Rattle.why.specs.declared.Reason.TheVariants.{NotGiven, Inside, Near, Far, Held}
use Rattle.sentences.specs.Sentence.{no_reason}
use Rattle.sentences.proofs.Lengths.{short, cond-length, sentence-length}
use Rattle.explained.specs.declared.window.Tested.{Tested}
use Rattle.explained.specs.Shown.{shown_text}
use Rattle.explained.specs.Window.{tested_of, marked_of, cell_of, cells_of, row_of, window_bytes, window_of, frame_windows, other_windows, windows_of}

cell-length : (marked : Bool) (value : ℕ) → length (cell_of marked value) ≡ 4
unfolding cell_of
cell-length true value = simp (length-append, hex-length)
cell-length false value = simp (length-append, hex-length)

cells-length : (input : List ℕ) (t : Tested) (from n : ℕ) → length (cells_of input t from n) ≡ n * 4
unfolding cells_of
cells-length input t from n = length-tabs 4 _ n (λ i below. cell-length (marked_of t (from + i)) (get_or input (from + i) 0))

row-length : (input : List ℕ) (t : Tested) (from n : ℕ) → from ≤ 66048 → length (row_of input t from n) ≤ 19 + n * 4
unfolding row_of
row-length input t from n small = simp length-append (omega (arith, short from (omega arith), cells-length input t from n))

-- at most 16 bytes
few_bytes : (long centre : ℕ) → window_bytes long centre ≤ 16
few_bytes long centre =
    by_order long (centre + 10)
    (λ below. rw (lt-ltb long (centre + 10) below) (omega arith))
    (λ above. rw (le-ltb long (centre + 10) above) (omega arith))

window-length : (input : List ℕ) (t : Tested) (centre : ℕ) → centre ≤ 66048 → length (window_of input t centre) ≤ 100
unfolding window_of
window-length input t centre small = omega (arith, row-length input t (centre - 6) (window_bytes (length input) centre) (omega arith), few_bytes (length input) centre)

module _ (input : List ℕ) (t : Tested) (place : ℕ) (small : place ≤ 65536) where
  frame-length : (q : ℕ) → q ≤ place → length (frame_windows input t place q) ≤ 200
  unfolding frame_windows
  frame-length q before =
      let first = cond-length (eqb q place) [] (window_of input t q) 100 (omega arith) (window-length input t q (omega arith)) in
      simp length-append (omega (arith, window-length input t (q + 512) (omega arith)))

  others-length : (reason : Reason) → no_reason place reason ≡ false → length (other_windows input t place reason) ≤ 200
  others-length NotGiven can = omega arith
  others-length (Inside q) can = frame-length q (ltb-false place q can)
  others-length (Near byte) can = omega arith
  others-length (Far byte) can = omega (arith, window-length input t (place + 512) (omega arith))
  others-length Held can = omega arith

windows-length : (input : List ℕ) (place : ℕ) (reason : Reason) → place ≤ 65536 → no_reason place reason ≡ false → length (windows_of input place reason) ≤ 300
unfolding windows_of
windows-length input place reason small can =
    let t = tested_of place reason in
    simp length-append (omega (arith, window-length input t place (omega arith), others-length input t place small reason can))

pub shown-length : (input : List ℕ) (place : ℕ) (reason : Reason) → place ≤ 65536 → no_reason place reason ≡ false → length (shown_text input place reason) ≤ 512
shown-length input place reason small can =
    simp length-append (omega (arith, sentence-length place small input reason can, windows-length input place reason small can))
