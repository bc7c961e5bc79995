-- Each byte with which an atom may begin.
use Rattle.judge_state.proofs.ByteTaken.{known}
use Rattle.judge_step.proofs.Outside.{begin_literal, begin_dot, begin_class, begin_group}
use Rattle.judge_step.proofs.begin_atom.Goals as goal

pub returns-then-is_literal-clause-begins : goal.returns-then-is_literal-clause-begins
returns-then-is_literal-clause-begins c =
    let a = c.args in
    begin_literal a.b a.place c.requires.1 (known c.is_literal.ensures c.if-is_literal.true) c.read_as.ensures.read_as

pub returns-in-46-clause-begins : goal.returns-in-46-clause-begins
returns-in-46-clause-begins c = let a = c.args in begin_dot a.b a.place c.requires.1 c.in-46.is c.read_as-in-46.ensures.read_as

pub returns-in-91-clause-begins : goal.returns-in-91-clause-begins
returns-in-91-clause-begins c =
    let a = c.args in
    begin_class a.b a.place c.requires.1 c.in-91.is c.read_as-in-91.ensures.read_as c.read_as-in-91.ensures.deep_value

pub returns-in-40-clause-begins : goal.returns-in-40-clause-begins
returns-in-40-clause-begins c = let a = c.args in begin_group a.b a.place c.requires.1 c.in-40.is c.nest.ensures.nests
