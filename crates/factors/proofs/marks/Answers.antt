use mathlib.Core.Path.{refl, sym, ap, ◌∙◌}
use native.Mathlib.Omega.{arith}
use borrow.Author.Rules.{rules}
use Rattle.scope.specs.Text.Grammar.{is_mark}
use Rattle.factors.proofs.ReadsIn.{mark_inside}
use Rattle.factors.proofs.Carried.{carried_none, carried_more, mark_fit, mark_turn}
use Rattle.factors.proofs.marks.Goals as goal

pub loop-b-init : goal.loop-b-init
loop-b-init c = (search rules, refl, c.requires, carried_none _ _ _ _)

pub loop-b-preserved : goal.loop-b-preserved
loop-b-preserved c =
    let f = c.loop-b.invariant.2 in
    let (b, h) = c.in-Some.ensures in
    let m = c.marked-all.ensures in (
      omega (arith, m.moved.nexts),
      m.linked.kept.size ∙ c.loop-b.invariant.1,
      mark_fit f (mark_inside c.args.text.now c.loop-b.all.next (ap is_mark (sym b) ∙ h)) m.linked.kept.size m,
      carried_more c.loop-b.invariant.3 (mark_turn b h f.few m),
    )
