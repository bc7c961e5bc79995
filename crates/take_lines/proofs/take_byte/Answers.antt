-- By what the byte is: a line end, or a byte of the first, of the second or of a further line.
use mathlib.Core.List.{[], ◌∷◌}
use Rattle.take_lines.proofs.Blocks.{takes_end, takes_first, takes_second, takes_over}
use Rattle.take_lines.proofs.take_byte.Goals as goal

pub returns-then-byte-eq10 : goal.returns-then-byte-eq10
returns-then-byte-eq10 c = takes_end c.args.byte c.args.t c.next.result c.args.left.now c.args.right.now c.if-byte-eq10.true c.next.ensures

pub returns-in-First : goal.returns-in-First
returns-in-First c = takes_first c.args.byte c.keep.result c.args.t c.args.right.now c.if-byte-eq10.false c.in-First.is c.keep.ensures

pub returns-in-Second : goal.returns-in-Second
returns-in-Second c = takes_second c.args.byte c.keep-in-Second.result c.args.t c.args.left.now c.if-byte-eq10.false c.in-Second.is c.keep-in-Second.ensures

pub returns-in-Further : goal.returns-in-Further
returns-in-Further c = takes_over (c.args.byte ∷ []) c.args.t c.args.left.now c.args.right.now c.in-Further.is
