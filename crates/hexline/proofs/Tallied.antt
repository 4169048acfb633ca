-- The closing line: how long it is, and that it is written whole. Assumes nothing.
use mathlib.Core.Path.{◌≡◌, ◌∙◌}
use mathlib.Core.List.{List}
use Prim.Native.Nat.{ℕ, ◌<◌, ◌≤◌, ◌^◌}
use native.Mathlib.Omega.{arith}
use borrow.Author.Tests.{lt-ltb, le-ltb}
use lib.Dec.{ltb}
use lib.ListN.{length, length-append}
use Rattle.text.specs.Put.{gave, put_of}
use Rattle.text.proofs.Puts.{put_start, cond-inside}
use Rattle.hexline.proofs.Columns.{number-length}
use Rattle.hexline.specs.Tally.{tally_text, tally_of}

module _ (frames skipped held : ℕ) where
  tally-length : frames < 2 ^ 64 → skipped < 2 ^ 64 → held < 2 ^ 64 → length (tally_text frames skipped held) ≤ 128
  unfolding tally_text
  tally-length a b c = simp length-append (omega (arith, number-length frames a, number-length skipped b, number-length held c))

  module _ (out : List ℕ) where
    pub tally_short : length out < 128 → gave 0 out ≡ tally_of frames skipped held out
    unfolding tally_of
    tally_short short = rw (lt-ltb (length out) 128 short)

    pub tally_whole : {r : ℕ} {after : List ℕ} → 128 ≤ length out → frames < 2 ^ 64 → skipped < 2 ^ 64 → held < 2 ^ 64
        → gave r after ≡ put_of out 0 (tally_text frames skipped held) → gave r after ≡ tally_of frames skipped held out
    unfolding tally_of
    tally_whole room a b c put =
        let inside = tally-length a b c in
        rw (le-ltb (length out) 128 room) (put ∙ put_start out (tally_text frames skipped held) (omega arith))

    pub tally_inside : (r : ℕ) (after : List ℕ) → gave r after ≡ tally_of frames skipped held out → r ≤ length after
    unfolding tally_of
    tally_inside r after e = cond-inside (ltb (length out) 128) (tally_text frames skipped held) out r after e
