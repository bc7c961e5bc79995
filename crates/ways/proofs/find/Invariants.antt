-- No block that was tried has the class.
use Rattle.ways.proofs.HeldClasses.{NoBlock}
use Rattle.ways.proofs.find.Given as goal

abbrev pub invariant-loop-tried : goal.invariant-loop-tried
invariant-loop-tried l = NoBlock l.room l.from l.tried l.class
