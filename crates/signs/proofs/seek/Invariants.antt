-- From q up to x there is no state whose sign is in s.
use Prim.Native.Nat.{◌-◌, ◌≤◌}
use Rattle.signs.specs.Signs.{Gap}
use Rattle.signs.proofs.seek.Given as goal

abbrev pub invariant-loop-x : goal.invariant-loop-x
invariant-loop-x l = (l.q ≤ l.x) × Gap l.s l.q l.x

abbrev pub decreases-loop-x : goal.decreases-loop-x
decreases-loop-x l = l.n - l.x
