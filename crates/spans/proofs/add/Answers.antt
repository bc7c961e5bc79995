use mathlib.Core.Path.{refl, ap₂, ◌∙◌}
use mathlib.Core.Bool.{◌||◌}
use native.Mathlib.Omega.{arith}
use borrow.Author.Rules.{rules}
use Rattle.scope.proofs.Positions.Bits.{has_or}
use Rattle.spans.proofs.Spans.{becoming_none, becoming_more, becoming_next, became}
use Rattle.spans.proofs.add.Goals as goal

pub loop-w-init : goal.loop-w-init
loop-w-init c = (refl, refl, becoming_none)

pub loop-w-preserved : goal.loop-w-preserved
loop-w-preserved c =
    let l = c.loop-w in
    let b = l.invariant.2 in (
      l.invariant.0,
      search rules,
      becoming_more _ _ l.invariant.0 (omega arith) b (λ j h. has_or _ _ j ∙ ap₂ ◌||◌ (becoming_next _ l.invariant.0 (omega arith) b j h) (c.bits.ensures j h)),
    )

pub returns : goal.returns
returns c = became (omega arith) c.loop-w.invariant.2
