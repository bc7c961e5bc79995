use mathlib.Core.Path.{◌≡◌}
use borrow.Author.Rules.{rules}
use Rattle.scope.specs.Machines.Room.{states_of}
use Rattle.soundness.proofs.WaysJudged.{lowered_none, lowered_more}
use Rattle.soundness.proofs.begin.Goals as goal

pub loop-q-init : goal.loop-q-init
loop-q-init c = lowered_none (search rules)

pub loop-q-preserved : goal.loop-q-preserved
loop-q-preserved c = lowered_more c.of_first.result c.loop-q.invariant (search rules) c.of_first.ensures

pub returns : goal.returns
returns c = let e : c.loop-q.q ≡ states_of c.args.room.now = search rules in rw e at c.loop-q.invariant
