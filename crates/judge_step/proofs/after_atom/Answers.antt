-- A mark, `|` and `)` go on after an atom.
use mathlib.Core.Path.{refl}
use native.Mathlib.Omega.{arith}
use Rattle.judge_state.proofs.ByteTaken.{known}
use Rattle.judge_step.proofs.Outside.{mark_taken, bar_taken, close_none, close_taken}
use Rattle.judge_step.proofs.after_atom.Goals as goal

pub returns-then-is_mark-clause-advances : goal.returns-then-is_mark-clause-advances
returns-then-is_mark-clause-advances c = let a = c.args in mark_taken a.b a.place c.requires.1 c.requires.2 (known c.is_mark.ensures c.if-is_mark.true)

pub returns-in-124-clause-advances : goal.returns-in-124-clause-advances
returns-in-124-clause-advances c = let a = c.args in bar_taken a.b a.place c.requires.1 c.requires.2 c.in-124.is

pub returns-in-41-clause-advances : goal.returns-in-41-clause-advances
returns-in-41-clause-advances c = let a = c.args in close_taken a.b a.place c.requires.1 c.requires.2 c.in-41.is c.if-x-gt0.true

pub returns-in-41-2-clause-advances : goal.returns-in-41-2-clause-advances
returns-in-41-2-clause-advances c = let a = c.args in close_none a.b a.place c.requires.1 c.requires.2 c.in-41.is (omega arith) refl
