-- The byte is stored while the line may be a pattern, and else only counted, up to one more.
use Rattle.take_lines.proofs.Blocks.{kept_stored, kept_dropped}
use Rattle.take_lines.proofs.keep.Goals as goal

pub returns-then-count-lt-PATTERN : goal.returns-then-count-lt-PATTERN
returns-then-count-lt-PATTERN c = kept_stored c.args.byte c.args.count c.args.line.now c.if-count-lt-PATTERN.true c.requires

pub returns : goal.returns
returns c = kept_dropped c.args.byte c.args.count c.max.result c.args.line.now c.if-count-lt-PATTERN.false c.max.ensures
