use mathlib.Core.Path.{sym, ◌∙◌}
use mathlib.Core.Bool.{false≢true}
use native.Mathlib.Omega.{arith}
use Rattle.judge.proofs.Follows.{follows_on, stops, lacks, ends}
use Rattle.judge.proofs.judge.Goals as goal

pub returns-in-Stuck : goal.returns-in-Stuck
returns-in-Stuck c =
    let l = c.loop-place in
    stops c.args.text.now l.place (omega arith) l.invariant.3 c.advance.ensures.advances l.invariant.2 c.in-Stuck.is

pub loop-place-preserved : goal.loop-place-preserved
loop-place-preserved c =
    let l = c.loop-place in
    let b = c.advance.ensures.bounded in (
      omega (arith, b.deep_fits),
      b.half_fits l.invariant.1,
      c.in_default.not-Stuck,
      follows_on c.args.text.now l.place (omega arith) l.invariant.3 c.advance.ensures.advances c.in_default.not-Stuck,
    )

pub returns-then-not-may_end : goal.returns-then-not-may_end
returns-then-not-may_end c =
    let l = c.loop-place in
    lacks c.args.text.now l.place (omega arith) l.invariant.3 l.invariant.2 (λ e. false≢true (sym c.if-not-may_end.true ∙ c.may_end.ensures.1 e))

pub returns : goal.returns
returns c = let l = c.loop-place in ends c.args.text.now l.place (omega arith) l.invariant.3 (c.may_end.ensures.0 c.if-not-may_end.false) c.first_fault.ensures
