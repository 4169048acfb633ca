-- The call's cases: an out that is too short, a place that the input does not have, and the text at the start of out. Assumes nothing.
use mathlib.Core.Path.{◌≡◌, ◌∙◌}
use mathlib.Core.Bool.{true, false, ◌||◌}
use mathlib.Core.List.{List}
use Prim.Native.Nat.{ℕ, ◌<◌, ◌≤◌}
use native.Mathlib.Omega.{arith}
use borrow.Author.Tests.{ltb-false, leb-false, lt-ltb, le-ltb}
use lib.Dec.{leb, ltb}
use lib.ListN.{length}
use Rattle.wire.proofs.Cases.{neither}
use Rattle.text.specs.Put.{gave, put_of}
use Rattle.text.proofs.Puts.{put_start}
use Rattle.why.specs.declared.Reason.{Reason}
use Rattle.sentences.specs.Sentence.{no_reason}
use Rattle.explained.specs.Shown.{no_place, shown_text, shown_of}
use Rattle.explained.proofs.Lengths.{shown-length}

module _ (input : List ℕ) (place : ℕ) (reason : Reason) where
  -- the place is the input's, and can have the reason
  pub has-place : no_place input place reason ≡ false → (place ≤ 65536) × (no_reason place reason ≡ false)
  has-place has =
      let parts = neither (ltb 65536 (length input) || leb (length input) place) (no_reason place reason) has in
      let within = neither (ltb 65536 (length input)) (leb (length input) place) parts.0 in
      (omega (arith, ltb-false 65536 (length input) within.0, leb-false (length input) place within.1), parts.1)

  module _ (out : List ℕ) where
    pub shown_short : length out < 512 → gave 0 out ≡ shown_of input place reason out
    unfolding shown_of
    shown_short less = rw (lt-ltb (length out) 512 less)

    module _ (room : 512 ≤ length out) where
      pub shown_none : no_place input place reason ≡ true → gave 0 out ≡ shown_of input place reason out
      unfolding shown_of
      shown_none none = rw (le-ltb (length out) 512 room, none)

      pub shown_whole : {r : ℕ} {after : List ℕ} → no_place input place reason ≡ false → gave r after ≡ put_of out 0 (shown_text input place reason)
          → gave r after ≡ shown_of input place reason out
      unfolding shown_of
      shown_whole has put =
          let fits = shown-length input place reason (has-place has).0 (has-place has).1 in
          rw (le-ltb (length out) 512 room, has) (put ∙ put_start out (shown_text input place reason) (omega arith))
