-- Nothing is taken of nothing, whatever the buffers hold.
use Rattle.take_lines.proofs.Blocks.{taken_begin}
use Rattle.take_lines.proofs.begin.Goals as goal

pub returns : goal.returns
returns c = taken_begin
