-- The digits of its tenth stand before the last one. The number falls.
use Rattle.line_pieces.proofs.Lines.+decimal.Given as goal

abbrev pub decreases-decimal : goal.decreases-decimal
decreases-decimal l = l.n
