use mathlib.Core.Path.{◌≡◌, sym, ◌∙◌}
use borrow.Author.Rules.{rules}
use Rattle.scope.specs.Machines.Room.{states_of}
use Rattle.way_writing.proofs.Sinking.{sinking_none, sinking_pass, sinking_mark}
use Rattle.way_writing.proofs.first_ways.Goals as goal
use Rattle.way_writing.proofs.first_ways.Goals.{else-mark-eq1, then-mark-eq1}

pub loop-q-init : goal.loop-q-init
loop-q-init c = sinking_none c.head-q-end.ensures.sound

pub loop-q-preserved : goal.loop-q-preserved
loop-q-preserved c = let v = c.loop-q.invariant in
    elim c.if-mark-eq1.branch [
      | then-mark-eq1 w ↦ rw w.ways-is (sinking_mark c.head-q-end.ensures.sound (search rules) (sym c.mark.ensures.0 ∙ w.if-mark-eq1.true) v)
      | else-mark-eq1 w ↦ rw w.ways-is (sinking_pass (λ e. w.if-mark-eq1.false (c.mark.ensures.0 ∙ e)) v)
    ]

pub returns-clause-sinking : goal.returns-clause-sinking
returns-clause-sinking c = let e : c.loop-q.q ≡ states_of c.args.room.now = search rules in rw e at c.loop-q.invariant
