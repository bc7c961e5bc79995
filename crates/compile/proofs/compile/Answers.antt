-- What is lent is judged first; after every other answer the scratch is cleared.
use mathlib.Core.Path.{refl}
use Rattle.scope.specs.Operations.Compile.{no_room}
use Rattle.compile.proofs.compile.Goals as goal

pub returns-then-not-is_lent : goal.returns-then-not-is_lent
returns-then-not-is_lent c = no_room (c.is_lent.ensures.no c.if-not-is_lent.true) refl (record { bytes_kept = refl; words_kept = refl })
