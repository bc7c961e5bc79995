use mathlib.Core.Path.{refl, ap₂, ◌∙◌}
use mathlib.Core.Bool.{◌&&◌, ◌||◌}
use native.Mathlib.Omega.{arith}
use borrow.Author.Rules.{rules}
use Rattle.scope.proofs.Positions.Bits.{has_or}
use Rattle.scope.proofs.Positions.Moves.{has_and}
use Rattle.spans.proofs.Spans.{becoming_none, becoming_more, becoming_next, becoming_other, became}
use Rattle.spans.proofs.put.Goals as goal

pub loop-w-init : goal.loop-w-init
loop-w-init c = (refl, refl, refl, becoming_none)

pub loop-w-preserved : goal.loop-w-preserved
loop-w-preserved c =
    let b = c.loop-w.invariant.3 in
    let e = c.loop-w.invariant.0 in
    let d = c.loop-w.invariant.1 in (
      e,
      d,
      search rules,
      becoming_more _ _ d (omega (arith, c.requires.1)) b (λ j h.
          has_or _ _ j
          ∙ ap₂ ◌||◌ (becoming_next _ d (omega arith) b j h) (has_and _ _ j ∙ ap₂ ◌&&◌ (becoming_other _ _ e c.requires.0 (omega arith) b j h) (c.bits.ensures j h))),
    )

pub returns : goal.returns
returns c = became (omega arith) c.loop-w.invariant.3
