-- The line end alone stands between the two ranges.
use mathlib.Core.Path.{refl}
use Rattle.leaves.proofs.Singles.{dot_ranges}
use Rattle.leaves.proofs.insert_dot.Goals as goal

pub returns : goal.returns
returns c = dot_ranges c.insert.ensures c.insert-2.ensures refl refl refl
