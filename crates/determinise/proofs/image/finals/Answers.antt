-- A set that is joined with nothing.
use mathlib.Core.Path.{sym}
use lib.Bits.{or_zero_r}
use Rattle.determinise.proofs.image.finals.Goals as goal

pub returns-else-null : goal.returns-else-null
returns-else-null c = rw c.if-null.false (sym (or_zero_r _))
