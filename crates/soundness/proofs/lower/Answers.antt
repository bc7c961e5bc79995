use mathlib.Core.Path.{◌≡◌}
use borrow.Author.Rules.{rules}
use Rattle.scope.specs.Machines.Room.{states_of}
use Rattle.soundness.proofs.WaysJudged.{lowered_none, lowered_more, unlowered_more}
use Rattle.soundness.proofs.lower.Goals as goal

pub loop-q-init : goal.loop-q-init
loop-q-init c = (lowered_none c.requires.lowered.size, λ q h k. c.requires.lowered.each q h)

pub loop-q-preserved : goal.loop-q-preserved
loop-q-preserved c = let v = c.loop-q.invariant in
    (lowered_more c.of_four.result v.0 (search rules) c.of_four.ensures, unlowered_more _ _ _ _ c.loop-q.least c.of_four.result v.1)

pub returns : goal.returns
returns c = let e : c.loop-q.q ≡ states_of c.args.room.now = search rules in rw e at c.loop-q.invariant.0
