-- Two ranges of digits.
use Rattle.line_pieces.proofs.Numerals.{hex_low, hex_high}
use mathlib.Core.Path.{sym}
use Rattle.line_pieces.proofs.hex_digit.Goals as goal

pub returns-then-d-lt10 : goal.returns-then-d-lt10
returns-then-d-lt10 c = sym (hex_low c.args.d c.if-d-lt10.true)

pub returns-else-d-lt10 : goal.returns-else-d-lt10
returns-else-d-lt10 c = sym (hex_high c.args.d c.if-d-lt10.false)
