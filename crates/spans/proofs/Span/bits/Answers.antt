-- Those up to one, without those up to the other.
use mathlib.Core.Path.{ap₂, ◌∙◌}
use mathlib.Core.Bool.{Bool, ◌&&◌, not}
use native.Mathlib.Omega.{arith}
use Rattle.spans.proofs.Spans.{has_without, between_up}
use Rattle.spans.proofs.Span.bits.Goals as goal

pub returns : goal.returns
returns c = λ j l. has_without c.low.result c.low-2.result j l (omega arith) ∙ ap₂ (λ (a b : Bool). a && not b) (c.low.ensures j l) (c.low-2.ensures j l) ∙ between_up _ _ _
