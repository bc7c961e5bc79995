-- After a byte of a class comes `]`, or, after a low end alone, `-`.
use mathlib.Core.Path.{refl}
use mathlib.Core.Logic.{inl, inr}
use Rattle.judge_inside.proofs.InsideAtom.{class_closed, dash_taken, dash_none}
use Rattle.judge_inside.proofs.after_byte.Goals as goal

pub returns-in-Low-clause-advances : goal.returns-in-Low-clause-advances
returns-in-Low-clause-advances c = let a = c.args in dash_taken a.b a.place c.requires.0 c.in-Low.is c.in-45.is

pub returns-in-Atom-clause-advances : goal.returns-in-Atom-clause-advances
returns-in-Atom-clause-advances c =
    let a = c.args in
    elim c.in-Atom.is [ inl e ↦ absurd (c.requires.1 e) | inr e ↦ dash_none a.b a.place c.requires.0 e c.in-45.is refl ]

pub returns-in-93-clause-advances : goal.returns-in-93-clause-advances
returns-in-93-clause-advances c = let a = c.args in class_closed a.b a.place c.requires.0 c.requires.1 c.in-93.is
