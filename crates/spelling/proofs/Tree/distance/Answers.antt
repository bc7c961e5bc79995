use mathlib.Core.Path.{◌≡◌}
use native.Mathlib.Omega.{arith}
use borrow.Author.Rules.{rules}
use Rattle.scope.proofs.Machines.Rounds.{rounds_bound}
use Rattle.spelling.proofs.Halving.{halve_first, halve_low, halve_high}
use Rattle.spelling.proofs.Tree.distance.Goals as goal

pub loop-low-init : goal.loop-low-init
loop-low-init c = (search rules, halve_first _ _ _ _ _ _ c.requires.two)

pub overflow_add-middle : goal.overflow_add-middle
overflow_add-middle c = let d = c.requires in
    omega (arith, rounds_bound d.machine d.refined.closed c.args.rounds d.refined.last, d.few, c.loop-low.invariant.1.within)

pub loop-low-preserved-then-climb : goal.loop-low-preserved-then-climb
loop-low-preserved-then-climb c =
    let l = c.loop-low in
    (search rules, halve_low _ _ _ _ _ _ _ _ _ _ _ l.invariant.1 (search rules) c.climb.ensures c.climb-in-loop-low.ensures c.if-climb.true)

pub loop-low-preserved : goal.loop-low-preserved
loop-low-preserved c =
    let l = c.loop-low in
    (search rules, halve_high _ _ _ _ _ _ _ _ _ _ _ l.invariant.1 (search rules) c.climb.ensures c.climb-in-loop-low.ensures c.if-climb.false)

pub returns : goal.returns
returns c = let e : c.loop-low.low ≡ c.loop-low.high = omega arith in rw (← e) at c.loop-low.invariant.1
