-- The bytes of the block so far are taken. Once both lines are ended, the rest changes nothing.
use lib.ListN.{take}
use Rattle.take_lines.specs.Taking.{TakesBlock}
use Rattle.take_lines.proofs.take_block.Given as goal

abbrev pub invariant-loop-byte : goal.invariant-loop-byte
invariant-loop-byte l = TakesBlock (take l.byte-index l.block) l.initial.so_far l.so_far l.initial.left l.left l.initial.right l.right
