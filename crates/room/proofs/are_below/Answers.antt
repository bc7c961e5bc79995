-- The greatest byte is below the limit exactly if all are.
use Prim.Native.Nat.{◌-◌}
use native.Mathlib.Omega.{arith}
use borrow.Author.Tests.{ltb-true, ltb-false}
use Rattle.room.proofs.are_below.Goals as goal

pub returns : goal.returns
returns c = let a = c.args in
    record {
      yes = λ e i h k. omega (arith, ltb-true c.greatest.result a.limit e, c.greatest.ensures.above i h k);
      no = λ e f. omega (arith, ltb-false c.greatest.result a.limit e, c.greatest.ensures.least (a.limit - 1) (λ i h k. omega (arith, f i h k)));
    }
