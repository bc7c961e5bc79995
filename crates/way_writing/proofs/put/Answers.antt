use mathlib.Core.Path.{◌≡◌}
use native.Mathlib.Omega.{arith}
use borrow.Author.Rules.{rules}
use Prim.Native.Nat.{◌/◌, ◌%◌}
use lib.ListN.{get_or, length-set}
use Rattle.scope.specs.Limits.{byte_values}
use Rattle.way_writing.proofs.WaysWritten.{put_none, put_more}
use Rattle.way_writing.proofs.put.Goals as goal

pub loop-q-init : goal.loop-q-init
loop-q-init c = put_none _ _

pub bounds-room-at-in-loop-q : goal.bounds-room-at-in-loop-q
bounds-room-at-in-loop-q c = simp length-set (omega (arith, c.loop-q.invariant.size))

pub loop-q-preserved : goal.loop-q-preserved
loop-q-preserved c = let w = get_or c.args.ways c.loop-q.q 0 in
    let high : get_or c.to_be_bytes.result 0 0 ≡ w / byte_values = rw c.to_be_bytes.ensures (omega arith) in
    let low : get_or c.to_be_bytes.result 1 0 ≡ w % byte_values = rw c.to_be_bytes.ensures (omega arith) in
    rw (high, low) (put_more (search rules) (search rules) c.loop-q.invariant)

pub returns : goal.returns
returns c = let e : c.loop-q.q ≡ c.args.n = search rules in rw e at c.loop-q.invariant
