-- Each pass ensures what the next requires; together they are the plan.
use Rattle.smallest.proofs.Ready.{ready, apart, rows, planned}
use Rattle.smallest.proofs.make_plan.Goals as goal

pub arrivals-requires : goal.arrivals-requires
arrivals-requires c = let r = c.refine_alone-alone.ensures in ready r.sound r.refined_alone

pub merge-requires : goal.merge-requires
merge-requires c =
    let r = c.refine_alone-alone.ensures in
    let d = ready r.sound r.refined_alone in
    record { states_in = rows r.sound r.refined_alone c.arrivals.ensures; distinct = (d.few, d.columns, apart r.sound r.refined_alone) }

pub returns : goal.returns
returns c = let r = c.refine_alone-alone.ensures in (planned r.sound r.refined_alone c.arrivals.ensures c.merge.ensures, r.tail_kept)
