-- By the word that p stands in.
use native.Mathlib.Omega.{arith}
use Rattle.spans.proofs.Spans.{low_all, low_some, low_none}
use Rattle.spans.proofs.low.Goals as goal

pub returns-then-w-p : goal.returns-then-w-p
returns-then-w-p c = λ j l. low_all _ _ j c.if-w-p.true l

pub returns-then-w-p-2 : goal.returns-then-w-p-2
returns-then-w-p-2 c = λ j l. low_some _ _ j c.if-w-p-2.true l

pub returns : goal.returns
returns c = λ j l. low_none _ _ j (omega (arith, c.if-w-p.false, c.if-w-p-2.false))
