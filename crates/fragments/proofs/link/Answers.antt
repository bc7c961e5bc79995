use mathlib.Core.Path.{refl, sym, ◌∙◌}
use mathlib.Core.Bool.{true, false, or-false}
use native.Mathlib.Omega.{arith}
use borrow.Author.Rules.{rules}
use Rattle.spans.proofs.Spans.{is_same}
use Rattle.fragments.proofs.FollowLinks.{linked_none, linked_more}
use Rattle.fragments.proofs.link.Goals as goal
use Rattle.fragments.proofs.link.Goals.{then-is_in, else-is_in}

pub loop-p-init : goal.loop-p-init
loop-p-init c = (refl, linked_none _ _ _ _)

pub loop-p-preserved : goal.loop-p-preserved
loop-p-preserved c = (
  search rules,
  elim c.if-is_in.branch [
    | then-is_in w ↦
        rw w.words-is (linked_more {last = true} (omega arith) (omega (arith, c.requires)) c.loop-p.invariant.1 (sym w.if-is_in.true ∙ c.is_in.ensures) w.put.ensures)
    | else-is_in w ↦
        rw w.words-is
        (linked_more {last = false} (omega arith) (omega (arith, c.requires)) c.loop-p.invariant.1 (sym w.if-is_in.false ∙ c.is_in.ensures) (is_same _ _ _ (λ q. sym (or-false _))))
  ],
)
