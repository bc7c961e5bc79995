use borrow.Author.Rules.{rules}
use native.Mathlib.Omega.{arith}
use Rattle.leaves.proofs.GrownSets.{left_more, left_none, grown_range, between_eight, between_none}
use Rattle.leaves.proofs.byte_set.insert.Goals as goal

pub loop-i-preserved : goal.loop-i-preserved
loop-i-preserved c =
    let l = c.loop-i in
    let a = c.args in (
      search rules,
      left_more l.invariant.1 (grown_range a.k l.i c.max-first.result c.min-last.result (omega arith) (omega arith) _ l.bytes (search rules) (search rules) (omega arith) c.bits.ensures)
          (λ n h. rw (c.max-first.ensures, c.min-last.ensures) (between_eight a.low a.high l.i n)),
    )

pub returns : goal.returns
returns c = left_none c.loop-i.invariant.1 (λ n h. between_none _ c.args.high n (omega arith))
