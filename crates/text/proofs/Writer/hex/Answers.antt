-- `Writer::hex` meets its contract: the higher digit, and the lower one. Assumes nothing.
use Rattle.text.specs.Numbers.{hex_of}
use Rattle.text.proofs.Writer.hex.Goals as goal

pub returns : goal.returns
unfolding hex_of
returns c =
    rw (← c.digit.ensures, ← c.digit-2.ensures) c.put.ensures
