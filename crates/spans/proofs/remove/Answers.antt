use mathlib.Core.Path.{refl, ap₂, ◌∙◌}
use mathlib.Core.Bool.{Bool, ◌&&◌, not}
use native.Mathlib.Omega.{arith}
use borrow.Author.Rules.{rules}
use Rattle.spans.proofs.Spans.{has_without, becoming_none, becoming_more, becoming_next, became}
use Rattle.spans.proofs.remove.Goals as goal

pub loop-w-init : goal.loop-w-init
loop-w-init c = (refl, refl, becoming_none)

pub loop-w-preserved : goal.loop-w-preserved
loop-w-preserved c =
    let b = c.loop-w.invariant.2 in
    let e = c.loop-w.invariant.0 in (
      e,
      search rules,
      becoming_more _ _ e (omega arith) b
          (λ j h. has_without _ c.bits.result j h (omega arith) ∙ ap₂ (λ (x y : Bool). x && not y) (becoming_next _ e (omega arith) b j h) (c.bits.ensures j h)),
    )

pub returns : goal.returns
returns c = became (omega arith) c.loop-w.invariant.2
