-- The starts lie in one part, or there is a first round after which they are not together, and so many bytes are spelled.
use mathlib.Core.Path.{◌≡◌}
use native.Mathlib.Omega.{arith}
use Rattle.scope.specs.Machines.Room.{states_of}
use Rattle.two_rooms.specs.Side.{both}
use Rattle.two_rooms.proofs.ByKind.{most_bytes}
use Rattle.refinement.specs.Refined.{Refined}
use Rattle.compare.proofs.Results.{answer_same, answer_fits, answer_separated}
use Rattle.compare.proofs.refined.Goals as goal
use Rattle.compare.proofs.refined.Goals.{After-head-s}

-- the states of both rooms are refined
whole : (c : After-head-s) → let r = c.refine-rounds in Refined (both c.args.left.now c.args.right.now) r.new.part r.new.lineage.parent r.new.lineage.born r.result
whole c =
    let p = c.both-pair.ensures in
    rw (p.states, p.rooms.0, p.rooms.1, c.table.ensures.table, c.table-2.ensures.table) at c.refine-rounds.ensures.refined

-- the right one starts behind the states of the left one
start : (c : After-head-s) → c.head-s.result.states ≡ states_of c.args.left.now
start c = rw (c.both-pair.ensures.rooms.0, c.table.ensures.table) at c.head-s.ensures.counts.0

pub kinds-kinds-requires : goal.kinds-kinds-requires
kinds-kinds-requires c = most_bytes _ _

pub returns-then-part-s-clause-answers_compare : goal.returns-then-part-s-clause-answers_compare
returns-then-part-s-clause-answers_compare c =
    let a = (goal.at.returns-then-part-s-clause-answers_compare c).After-head-s in
    answer_same c.table.ensures.sound c.table-2.ensures.sound (whole a) (rw (start a) at c.if-part-s.true)

pub spell-requires-clause-long_in_bounds : goal.spell-requires-clause-long_in_bounds
spell-requires-clause-long_in_bounds c =
    let a = (goal.at.spell-requires-clause-long_in_bounds c).After-head-s in
    omega (arith, answer_fits c.table.ensures.sound c.table-2.ensures.sound (whole a) (rw (start a) at c.distance-long.ensures), c.requires.0)

pub returns-clause-answers_compare : goal.returns-clause-answers_compare
returns-clause-answers_compare c =
    let a = (goal.at.returns-clause-answers_compare c).After-head-s in
    let p = c.both-pair.ensures.rooms in
    answer_separated c.table.ensures.sound c.table-2.ensures.sound (whole a) (rw (p.0, p.1, c.table.ensures.table, c.table-2.ensures.table) at c.spell.ensures)
