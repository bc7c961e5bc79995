-- The invariant: of the set number i the words below w are without the span.
use Prim.Native.Nat.{◌+◌, ◌*◌}
use mathlib.Core.Path.{◌≡◌}
use mathlib.Core.Bool.{◌&&◌, not}
use lib.ListN.{length}
use Rattle.scope.specs.Bytes.{between}
use Rattle.scope.specs.Limits.{set_words}
use Rattle.scope.specs.Positions.Bits.{has}
use Rattle.sets.specs.Value.{set_at}
use Rattle.spans.proofs.Spans.{Becoming}
use Rattle.spans.proofs.remove.Given as goal

abbrev pub invariant-loop-w : goal.invariant-loop-w
invariant-loop-w l =
    (l.at ≡ l.i * set_words) × (length l.words ≡ length l.initial.words)
    × Becoming l.initial.words l.words l.i l.w (λ q. has (set_at l.initial.words l.i) q && not (between (l.span.after + 1) l.span.upto q))
