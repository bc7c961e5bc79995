-- One parenthesis more is open; inside as many others as may be, its place is noted.
use Rattle.judge_state.proofs.Keeps.{kept_opens, kept_shallow}
use Rattle.judge_step.proofs.Outside.{nest_state}
use Rattle.judge_step.proofs.nest.Goals as goal

pub returns-then-around-eq-NESTED-clause-nests : goal.returns-then-around-eq-NESTED-clause-nests
returns-then-around-eq-NESTED-clause-nests c =
    let a = c.args in
    record { state = nest_state a.x.now.piece a.x.now.deep c.requires.1; notes = λ _ _ k. kept_opens k a.x.now.deep a.place c.if-around-eq-NESTED.true c.more.ensures }

pub returns-else-around-eq-NESTED-clause-nests : goal.returns-else-around-eq-NESTED-clause-nests
returns-else-around-eq-NESTED-clause-nests c =
    let a = c.args in
    record { state = nest_state a.x.now.piece a.x.now.deep c.requires.1; notes = λ _ _ k. kept_shallow k a.x.now.deep a.place c.if-around-eq-NESTED.false }
