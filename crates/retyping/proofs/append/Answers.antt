-- The byte is stored after the text, and the length is one more.
use Rattle.retyping.proofs.Retyping.{retyped_more}
use Rattle.retyping.proofs.append.Goals as goal

pub returns : goal.returns
returns c = let p = c.requires in retyped_more p.0 p.1 p.2 c.args.key p.3
