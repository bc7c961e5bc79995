-- The last byte becomes zero, and the length one less; where there is none, nothing changes.
use Rattle.retyping.proofs.Retyping.{retyped_last}
use Rattle.retyping.proofs.take_last.Goals as goal

pub returns-in-Some : goal.returns-in-Some
returns-in-Some c = let p = c.requires in rw c.in-Some.ensures.1 (retyped_last p.0 p.1 p.2 c.in-Some.ensures.0)
