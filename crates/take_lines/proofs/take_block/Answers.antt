use Rattle.take_lines.proofs.Blocks.{takes_none, takes_more, takes_rest, takes_whole}
use Rattle.take_lines.proofs.take_block.Goals as goal

pub loop-byte-init : goal.loop-byte-init
loop-byte-init c = takes_none c.args.t c.args.left.now c.args.right.now

pub returns-in-Further : goal.returns-in-Further
returns-in-Further c = takes_rest c.args.block.now c.loop-byte.byte-index c.loop-byte.invariant c.in-Further.is

pub loop-byte-preserved : goal.loop-byte-preserved
loop-byte-preserved c = takes_more c.args.block.now c.loop-byte.byte-index c.loop-byte.invariant c.loop-byte-test.true c.take_byte-so_far.ensures

pub returns : goal.returns
returns c = takes_whole c.args.block.now c.loop-byte.byte-index c.loop-byte.invariant c.loop-byte-test.false
