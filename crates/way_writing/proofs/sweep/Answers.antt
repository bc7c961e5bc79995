use Prim.Native.Nat.{◌-◌}
use mathlib.Core.Path.{◌≡◌}
use native.Mathlib.Omega.{arith}
use borrow.Author.Rules.{rules}
use Rattle.way_writing.proofs.Sinking.{sweep_begins, sweep_passes, sweep_lowers, sweep_ends}
use Rattle.way_writing.proofs.sweep.Goals as goal

pub loop-q-init : goal.loop-q-init
loop-q-init c = rw c.head-q.ensures.counts.0 (sweep_begins c.requires.sinking)

pub least-ahead-requires : goal.least-ahead-requires
least-ahead-requires c = let v = c.loop-q.invariant in
    record { held_classes = c.requires.held_classes; q_bound = omega (arith, v.few) }

pub overflow_cast-ways : goal.overflow_cast-ways
overflow_cast-ways c = let l = c.loop-q in omega (arith, l.invariant.sinking.most (l.q - 1) (omega (arith, l.invariant.few)))

pub overflow_add-ways : goal.overflow_add-ways
overflow_add-ways c = let l = c.loop-q in omega (arith, l.invariant.sinking.most (l.q - 1) (omega (arith, l.invariant.few)))

pub loop-q-preserved-then-ahead-ways : goal.loop-q-preserved-then-ahead-ways
loop-q-preserved-then-ahead-ways c =
    sweep_lowers (search rules) c.requires.held_classes c.least-ahead.ensures c.loop-q.invariant c.head-q.ensures.sound c.if-ahead-ways.true

pub loop-q-preserved : goal.loop-q-preserved
loop-q-preserved c = sweep_passes (search rules) c.requires.held_classes c.least-ahead.ensures c.loop-q.invariant (search rules)

pub returns : goal.returns
returns c = let e : c.loop-q.q ≡ 0 = search rules in sweep_ends (rw e at c.loop-q.invariant)
