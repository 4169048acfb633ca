-- Signed numbers as the machine holds them, in the bits of a width: what a test against zero tells, and -1 less a number below it.
-- Assumes nothing.
use mathlib.Core.Path.{◌≡◌, ◌∙◌}
use mathlib.Core.Bool.{true, false}
use lib.IntN.{ℤ, pos, negsuc, ◌-ℤ◌}
use lib.Signed.{mag, lt_z}
use mir.Facts.{to_z-of_z}
use mir.Syntax.{Width}
use mir.Val.{SFits, to_z, of_z}
use Rattle.wire.proofs.Signed.{not_below, minus_one_less}

module _ (w : Width) (x : ℤ) (fits : SFits w x) where
  pub negative : lt_z (to_z w (of_z w x)) (pos 0) ≡ true → lt_z x (pos 0) ≡ true
  negative below = rw (to_z-of_z fits) at below

  pub difference_fits : lt_z (to_z w (of_z w x)) (pos 0) ≡ true → SFits w (negsuc 0 -ℤ to_z w (of_z w x))
  difference_fits below = rw (to_z-of_z fits, minus_one_less x (negative below)) (record { sfits = fits.sfits })

  pub difference : lt_z (to_z w (of_z w x)) (pos 0) ≡ true → to_z w (of_z w (negsuc 0 -ℤ to_z w (of_z w x))) ≡ pos (mag x)
  difference below = to_z-of_z (difference_fits below) ∙ rw (to_z-of_z fits) (minus_one_less x (negative below))

  pub not_negative : lt_z (to_z w (of_z w x)) (pos 0) ≡ false → lt_z x (pos 0) ≡ false
  not_negative above = rw (to_z-of_z fits) at above

  pub itself : lt_z (to_z w (of_z w x)) (pos 0) ≡ false → to_z w (of_z w x) ≡ pos (mag x)
  itself above = to_z-of_z fits ∙ not_below x (not_negative above)
