-- What a true reason says of the reading: what it gave before the place, what it does there, and how it goes on. Assumes nothing.
use mathlib.Core.Path.{◌≡◌, sym, ap, ◌∙◌}
use mathlib.Core.List.{List}
use Prim.Native.Nat.{ℕ, ◌+◌, ◌-◌}
use native.Mathlib.Omega.{arith}
use lib.ListN.{take, drop, length-drop}
use lib.Seq.{drop-drop}
use Rattle.reading.specs.Reading.{frame, skip, ◌and_then◌, reading}
use Rattle.reading.specs.UpTo.{up_to}
use Rattle.reading.proofs.Readings.{good-here, reading-good, reading_none, counted, place_after, left_is}
use Rattle.reading.proofs.UpTo.{comes_then}
use Rattle.why.specs.Reasons.{InFrame, Skips, IsHeld}

module _ (s : List ℕ) (p : ℕ) where
  -- the frame is handed out, behind what was handed out before it
  pub handed_out_lem : (q : ℕ) → InFrame s p q → reading s ≡ up_to q s and_then frame (take 512 (drop q s)) and_then reading (drop (q + 512) s)
  handed_out_lem q is =
      comes_then s q is.comes ∙ rw (reading-good (drop q s) (good-here s q ∙ is.begins), drop-drop 512 q s)

  pub skipped : Skips s p → reading s ≡ up_to p s and_then skip and_then reading (drop (p + 1) s)
  skipped is =
      comes_then s p is.comes
      ∙ rw (reading_none (drop p s) (rw (length-drop p s) (omega (arith, is.remain))) (good-here s p ∙ is.none), drop-drop 1 p s)

  -- the bytes from the place on are the end of what is left
  pub left : IsHeld s p → drop p s ≡ drop (p - place_after s) (reading s).left
  left is =
      let counts = counted s in
      let from : place_after s + (p - place_after s) ≡ p = omega (arith, is.left) in
      sym (ap (drop (p - place_after s)) (left_is s) ∙ drop-drop (p - place_after s) (place_after s) s ∙ ap (λ n. drop n s) from)
