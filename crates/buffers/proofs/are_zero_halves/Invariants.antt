-- Each accumulator is 0 exactly if the bytes that its half has so far are.
use Prim.Native.Nat.{◌+◌}
use Rattle.buffers.proofs.OneMore.{Zeros}
use Rattle.buffers.proofs.are_zero_halves.Given as goal

abbrev pub invariant-loop-i : goal.invariant-loop-i
invariant-loop-i l = Zeros l.first l.m l.from l.i × Zeros l.second l.m (l.from + l.half) (l.i + l.half)
