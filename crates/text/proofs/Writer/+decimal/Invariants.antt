-- `Writer::decimal` ends, since each number is less than the one before. Assumes nothing.
use Rattle.text.proofs.Writer.+decimal.Given as goal

abbrev pub decreases-decimal : goal.decreases-decimal
decreases-decimal l = l.n
