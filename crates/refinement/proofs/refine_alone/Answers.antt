-- The room stands beside itself, and its own states are refined over its kinds.
use native.Mathlib.Omega.{arith}
use Rattle.two_rooms.proofs.ByKind.{most_classes, column_part}
use Rattle.refinement.proofs.Refined.{left_alone}
use Rattle.refinement.proofs.refine_alone.Goals as goal

pub kinds-kinds-requires : goal.kinds-kinds-requires
kinds-kinds-requires c = let e = c.head.ensures in let r = c.alone-pair.ensures.rooms in rw (r.0, r.1, e.counts.1) (most_classes e.sound)

pub returns-clause-refined_alone : goal.returns-clause-refined_alone
returns-clause-refined_alone c =
    let p = c.alone-pair.ensures in
    let k = c.kinds-kinds.ensures in
    left_alone c.head.ensures.sound (rw (p.rooms.0, p.rooms.1) at k) (column_part _ _ (omega (arith, k.long, k.are.few)) c.columns.ensures)
    (rw (p.rooms.0, p.rooms.1, p.states) at c.refine-rounds.ensures.refined)
