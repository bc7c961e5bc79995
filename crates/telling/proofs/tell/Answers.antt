-- At place 0 nothing could have stood; at another the prefix is one byte shorter.
use native.Mathlib.Omega.{arith}
use Rattle.telling.proofs.Expecting.{none_expected, prefix_expected}
use Rattle.telling.proofs.tell.Goals as goal

pub returns-then-place-eq0 : goal.returns-then-place-eq0
returns-then-place-eq0 c = rw c.if-place-eq0.true none_expected

pub returns : goal.returns
returns c = prefix_expected (omega (arith, c.if-place-eq0.false)) c.can_follow.ensures
