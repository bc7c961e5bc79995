-- The invariant: the words passed are the unions of both sets' words.
use mathlib.Core.Path.{◌≡◌}
use lib.ListN.{length, get_or, replicate}
use lib.Bits.{bit_or}
use Rattle.scope.specs.Limits.{set_words}
use Rattle.scope.specs.Operations.Buffers.{Written}
use Rattle.sets.proofs.Set.joined.Given as goal

abbrev pub invariant-loop-i : goal.invariant-loop-i
invariant-loop-i l = (length l.r ≡ set_words) × Written l.i (λ x. bit_or (get_or l.self.words x 0) (get_or l.other.words x 0)) (replicate set_words 0) l.r
