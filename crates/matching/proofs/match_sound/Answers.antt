-- The last state says it: its mark, else its way home; where it has none, the place is looked for.
use mathlib.Core.Path.{sym, ◌∙◌}
use native.Mathlib.Omega.{arith}
use Rattle.scope.specs.Machines.Room.{machine}
use Rattle.scope.specs.Operations.Match.{accepted, dead, unfinished}
use Rattle.matching.specs.Live.{Live}
use Rattle.matching.proofs.Completable.{accepting, not_accepting, alive}
use Rattle.matching.proofs.match_sound.Goals as goal

pub returns-then-mark-eq1 : goal.returns-then-mark-eq1
returns-then-mark-eq1 c =
    let t = c.table-table.ensures in
    accepted t.sound (accepting c.args.room.now c.args.text.now (rw t.table at c.last_state-q.ensures.0) (rw t.table at (sym c.mark.ensures.0 ∙ c.if-mark-eq1.true)))

pub returns-then-is_live : goal.returns-then-is_live
returns-then-is_live c =
    let t = c.table-table.ensures in
    let led = rw t.table at c.last_state-q.ensures.0 in
    let mark = rw t.table at c.mark.ensures.0 in
    let live : Live (machine c.args.room.now) c.last_state-q.result = c.is_live.ensures.yes c.if-is_live.true in
    unfinished t.sound (alive _ c.args.text.now (λ i. omega (arith, c.type_inv.text i)) (rw led at live))
    (not_accepting c.args.room.now c.args.text.now led (λ e. c.if-mark-eq1.false (mark ∙ e)))

pub first_dead-requires : goal.first_dead-requires
first_dead-requires c = λ l. c.is_live.ensures.no c.if-is_live.false (rw (rw c.table-table.ensures.table at c.last_state-q.ensures.0) l)

pub returns : goal.returns
returns c = dead c.table-table.ensures.sound c.first_dead.ensures
