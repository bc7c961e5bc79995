use mathlib.Core.Path.{◌≡◌, refl}
use native.Mathlib.Omega.{arith}
use borrow.Author.Rules.{rules}
use borrow.Author.Tests.{tests}
use Rattle.std.proofs.lemmas.Iterator.{cases_from_all, YieldsList-from_range}
use Rattle.smallest_plan.specs.Smallest.{led}
use Rattle.class_merging.proofs.Chains.{all_below}
use Rattle.class_merging.proofs.are_alike.Goals as goal

pub returns : goal.returns
returns c =
    let a = c.args.rows.now.room in
    let s = c.args.rows.now.states.now in
    all_below _ s.count (cases_from_all _ _ _ (λ q. led a s q c.args.u ≡ led a s q c.args.v) (λ q. led a s q c.args.u ≡ led a s q c.args.v → ⊥) c.all.ensures.ran
    (YieldsList-from_range 0 s.count s.count refl (omega arith)) (λ q f k. search (rules, tests)) (λ q f k. search (rules, tests)))
