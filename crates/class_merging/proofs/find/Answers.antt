use borrow.Author.Rules.{rules}
use borrow.Author.Tests.{tests}
use Rattle.std.proofs.lemmas.Iterator.{IsFirst-from_position, YieldsList-from_slice}
use Rattle.smallest_plan.specs.Classed.{SameColumn}
use Rattle.class_merging.proofs.Chains.{first_at}
use Rattle.class_merging.proofs.find.Goals as goal

pub returns : goal.returns
returns c =
    let a = c.args.rows.now.room in
    let s = c.args.rows.now.states.now in
    let xs = c.args.leaders.now in
    first_at (λ v. SameColumn a s v c.args.u) _ xs (IsFirst-from_position _ _ _ (λ v. SameColumn a s v c.args.u) (λ v. SameColumn a s v c.args.u → ⊥) c.position.ensures.ran
    (YieldsList-from_slice xs cc) (λ q f k. search (rules, tests)) (λ q f k. search (rules, tests)))
