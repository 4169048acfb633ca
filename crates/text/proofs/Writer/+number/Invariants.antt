-- `Writer::number` ends, since each number is less than the one before. Assumes nothing.
use Rattle.text.proofs.Writer.+number.Given as goal

abbrev pub decreases-number : goal.decreases-number
decreases-number l = l.n
