-- `past_end` meets its contract: an out that is too short, or the line. Assumes nothing.
use Rattle.std.proofs.Common.{rules}
use Rattle.sentences.proofs.Calls.{past_short, past_whole}
use Rattle.sentences.specs.Run.{past_end_text}
use Rattle.text.proofs.Puts.{puts_then, handed_back}
use Rattle.sentences.proofs.past_end.Goals as goal

pub returns-then-out-lt-LINE : goal.returns-then-out-lt-LINE
returns-then-out-lt-LINE c = past_short _ _ c.if-out-lt-LINE.true

pub returns : goal.returns
unfolding past_end_text
returns c =
    past_whole _ _ c.ranges.length.fits c.if-out-lt-LINE.false (handed_back (puts_then c.put.ensures c.counted.ensures) (search rules))
