-- No byte so far is above `top`, and `top` is at most every bound of all of them.
use Prim.Native.Nat.{ℕ, ◌≤◌}
use Rattle.buffers.specs.Stored.{AtMost}
use Rattle.buffers.proofs.greatest.Given as goal

abbrev pub invariant-loop-i : goal.invariant-loop-i
invariant-loop-i s = AtMost s.m s.from s.i s.top × ((l : ℕ) → AtMost s.m s.from s.to l → s.top ≤ l)
