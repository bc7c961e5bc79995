use mathlib.Core.Path.{◌≡◌}
use native.Mathlib.Omega.{arith}
use borrow.Author.Rules.{rules}
use Rattle.arrivals.proofs.Swept.{swept_none, swept_few, numbers_front}
use Rattle.arrivals.proofs.arrivals.Goals as goal

pub loop-q-init : goal.loop-q-init
loop-q-init c = (omega arith, swept_none _ _ _ _ c.requires.sound c.requires.parts (search rules))

pub overflow_add-q : goal.overflow_add-q
overflow_add-q c = omega (arith, swept_few c.requires.sound c.loop-q.invariant.1, c.requires.sound.few_states)

pub loop-q-smaller : goal.loop-q-smaller
loop-q-smaller c = omega (arith, swept_few c.requires.sound c.loop-q.invariant.1, c.requires.sound.few_states, c.loop-q-test.true)

pub returns : goal.returns
returns c =
    let l = c.loop-q in
    let e : l.q ≡ l.states.count = omega (arith, l.invariant.0, c.loop-q-test.false) in
    let h = c.head.ensures in
    record {
      number = l.number;
      swept = rw e at (l.invariant.1);
      numbers = rw (h.counts.0) at (numbers_front c.args.part.now _ (omega (arith, h.counts.0, c.requires.sound.few_states)) c.numbers.ensures);
    }
