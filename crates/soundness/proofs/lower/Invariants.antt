-- The states before q are lowered.
use Prim.Native.Nat.{◌+◌}
use Rattle.soundness.specs.WaysJudged.{four, Lowered}
use Rattle.soundness.proofs.WaysJudged.{Unlowered}
use Rattle.soundness.proofs.lower.Given as goal

abbrev pub invariant-loop-q : goal.invariant-loop-q
invariant-loop-q l = Lowered l.room l.list (l.i + four) l.q l.least × Unlowered l.room l.list l.i l.q l.least
