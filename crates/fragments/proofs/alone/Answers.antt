-- The position comes into both sets.
use mathlib.Core.Path.{refl}
use Rattle.fragments.proofs.FollowLinks.{alone_made}
use Rattle.fragments.proofs.alone.Goals as goal

pub returns : goal.returns
returns c = alone_made c.add.ensures c.add-2.ensures refl refl refl
