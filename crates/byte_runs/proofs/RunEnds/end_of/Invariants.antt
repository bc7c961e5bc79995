-- The invariant: no end from b up to the word number w, and `rest` has the ends there from b on (`EndsLeft`). 255 is an end, so there is one.
use Prim.Native.Nat.{◌+◌, ◌-◌, ◌*◌, ◌<◌}
use Rattle.scope.specs.Limits.{byte_values}
use Rattle.byte_runs.specs.Runs.{NoEnd}
use Rattle.byte_runs.proofs.Ends.{EndsLeft}
use Rattle.byte_runs.proofs.RunEnds.end_of.Given as goal

abbrev pub invariant-loop-rest : goal.invariant-loop-rest
invariant-loop-rest l = (64 * l.w < byte_values) × (l.b < 64 * (l.w + 1)) × NoEnd l.self.words l.b (64 * l.w) × EndsLeft l.self.words l.w l.rest l.b

abbrev pub decreases-loop-rest : goal.decreases-loop-rest
decreases-loop-rest l = byte_values - 64 * l.w
