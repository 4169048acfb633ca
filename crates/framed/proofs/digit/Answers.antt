-- `digit` meets its contract: one sum for both ranges. Assumes nothing.
use Rattle.framed.proofs.Digits.{digit_sum}
use Rattle.framed.proofs.digit.Goals as goal

pub returns : goal.returns
returns c = digit_sum _ c.requires
