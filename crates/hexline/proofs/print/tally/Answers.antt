-- `print::tally` meets its contract: three labels, each with its number, and the newline. Assumes nothing.
use Rattle.std.proofs.Common.{rules}
use Rattle.hexline.proofs.Tallied.{tally_short, tally_whole}
use Rattle.hexline.specs.Tally.{tally_text}
use Rattle.text.proofs.Puts.{puts_then, handed_back}
use Rattle.hexline.proofs.print.tally.Goals as goal

pub returns-then-out-lt-TALLY : goal.returns-then-out-lt-TALLY
returns-then-out-lt-TALLY c = tally_short _ _ _ _ c.if-out-lt-TALLY.true

pub returns : goal.returns
unfolding tally_text
returns c =
    let fits = c.ranges in
    let said = puts_then (puts_then (puts_then c.labelled.ensures c.labelled-2.ensures) c.labelled-3.ensures) c.byte.ensures in
    tally_whole _ _ _ _ c.if-out-lt-TALLY.false fits.frames.fits fits.skipped.fits fits.held.fits (handed_back said (search rules))
