-- The invariant: the classes at the ends are those by the first p positions. A split that finds too many shows that all positions do.
use Rattle.byte_runs.specs.Runs.{Like}
use Rattle.byte_classes.specs.Group.{end_of, Grouped}
use Rattle.byte_classes.proofs.group.group.Given as goal

abbrev pub invariant-loop-p : goal.invariant-loop-p
invariant-loop-p l = Grouped (Like l.sets.bytes.now l.p) (end_of l.ends.words) l.map l.classes
