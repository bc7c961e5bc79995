use native.Mathlib.Omega.{arith}
use Rattle.reach.proofs.Passing.{passing_in, passing_more, passing_end}
use Rattle.reach.proofs.follows_word.Goals as goal

pub load-requires : goal.load-requires
load-requires c = omega (arith, passing_in c.loop-rest.invariant c.ranges.x.fits c.loop-rest-test.true)

pub loop-rest-preserved : goal.loop-rest-preserved
loop-rest-preserved c = passing_more c.loop-rest.invariant c.ranges.x.fits c.loop-rest-test.true c.joined-union.ensures c.load.ensures

pub returns : goal.returns
returns c = passing_end c.loop-rest.invariant c.loop-rest-test.false
