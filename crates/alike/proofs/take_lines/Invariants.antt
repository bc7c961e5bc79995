-- At every block what was taken is right for all blocks before it, and so many reads there were. Each way out is one way to stop.
use Rattle.alike.specs.Input.{Lines}
use mathlib.Core.Path.{◌≡◌}
use Rattle.alike.proofs.take_lines.Given as goal

abbrev pub invariant-loop-reads : goal.invariant-loop-reads
invariant-loop-reads l = Lines l.reading.taking l.left l.right × (l.reading.reads ≡ l.reads)
