-- The whole text is an expression, and the buffers are empty before.
use mathlib.Core.Path.{refl}
use borrow.Author.Rules.{rules}
use Rattle.pattern.proofs.Whole.{ready_text, fillable, reading}
use Rattle.pattern.proofs.read.Goals as goal

pub fill-requires : goal.fill-requires
fill-requires c = (fillable c.requires.faultless, search rules)

pub expr-all-requires : goal.expr-all-requires
expr-all-requires c = (ready_text c.requires.faultless, search rules)

pub returns : goal.returns
returns c = reading c.requires.faultless c.requires.clear.0 c.requires.clear.1 c.fill.ensures c.expr-all.ensures refl refl c.load-last.ensures
