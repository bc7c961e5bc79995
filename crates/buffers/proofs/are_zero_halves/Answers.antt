use Prim.Native.Nat.{◌+◌}
use mathlib.Core.Path.{◌≡◌}
use native.Mathlib.Omega.{arith}
use Rattle.buffers.proofs.OneMore.{zeros_none, zeros_more, zeros_join, zeros_decide}
use Rattle.buffers.proofs.are_zero_halves.Goals as goal

pub loop-i-init : goal.loop-i-init
loop-i-init c = let a = c.args in (zeros_none a.m.now _ _ (omega arith), zeros_none a.m.now _ _ (omega arith))

pub loop-i-preserved : goal.loop-i-preserved
loop-i-preserved c =
    let v = c.loop-i in
    let m = c.args.m.now in (
      zeros_more m v.first _ v.i _ (omega arith) (omega arith) v.invariant.0,
      zeros_more m v.second _ (v.i + _) _ (omega arith) (omega arith) v.invariant.1,
    )

pub returns : goal.returns
returns c =
    let a = c.args in
    let v = c.loop-i in
    let e : v.i ≡ a.from + a.half = omega arith in
    zeros_decide a.m.now _ _ _ (zeros_join a.m.now v.first v.second _ _ _ (omega arith) (omega arith) (rw e at v.invariant.0) (rw e at v.invariant.1))
