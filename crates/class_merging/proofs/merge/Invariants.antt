-- The kinds so far are merged: `Merged`.
use Rattle.class_merging.specs.Merged.{Merged}
use Rattle.class_merging.proofs.merge.Given as goal

abbrev pub invariant-loop-u : goal.invariant-loop-u
invariant-loop-u l = Merged l.room l.states l.columns l.sort l.classes.leader l.count l.u-index
