use mathlib.Core.Path.{◌≡◌}
use native.Mathlib.Omega.{arith}
use Rattle.byte_classes.proofs.RunEnds.{end_like}
use Rattle.byte_classes.proofs.Classes.{group_none, group_below, group_next, group_many, group_spread}
use Rattle.byte_classes.proofs.group.group.Goals as goal

pub loop-p-init : goal.loop-p-init
loop-p-init c = group_none c.args.sets.bytes.now _

pub split-requires-clause-classes_below : goal.split-requires-clause-classes_below
split-requires-clause-classes_below c = group_below c.loop-p.invariant

pub returns-in_err-classes : goal.returns-in_err-classes
returns-in_err-classes c = rw c.from_residual.ensures (group_many c.args.sets.bytes.now _ _ (end_like c.requires) c.loop-p-test.true c.loop-p.invariant c.in_err-classes.ensures)

pub loop-p-preserved : goal.loop-p-preserved
loop-p-preserved c = group_next c.args.sets.bytes.now _ _ (end_like c.requires) c.loop-p-test.true c.loop-p.invariant c.in_ok-classes.ensures

pub returns : goal.returns
returns c = let e : c.loop-p.p ≡ c.args.sets.count = omega arith in group_spread (rw e at c.loop-p.invariant) c.spread.ensures
