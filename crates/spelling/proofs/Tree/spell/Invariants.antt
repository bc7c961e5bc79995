-- The bytes before `at` are written, and the kinds before i lead the two states that they lead to into one part.
use Prim.Native.Nat.{◌+◌, ◌-◌}
use Rattle.scope.specs.Limits.{byte_values}
use Rattle.spelling.proofs.Spelling.{Writing, KindsTried}
use Rattle.spelling.proofs.Tree.spell.Given as goal

abbrev pub invariant-loop-i : goal.invariant-loop-i
invariant-loop-i l = KindsTried l.pair.left l.pair.right l.kinds.least (l.long - (l.at + 1)) l.p l.q l.i

abbrev pub decreases-loop-i : goal.decreases-loop-i
decreases-loop-i l = byte_values - l.i

abbrev pub invariant-walk : goal.invariant-walk
invariant-walk l = Writing l.pair.left l.pair.right l.initial.word l.word l.long l.p l.q l.at

abbrev pub decreases-walk : goal.decreases-walk
decreases-walk l = l.long - l.at
