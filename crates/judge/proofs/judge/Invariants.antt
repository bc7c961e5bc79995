-- The loop follows the mode machine, and its notes: after each byte the record stands in the machine's state, which is not stuck, and keeps what is noted. At
-- most as many parentheses are open as bytes were read.
use Prim.Native.Nat.{◌≤◌, ◌<◌}
use mathlib.Core.Path.{◌≡◌}
use Rattle.judge_state.specs.declared.Stage.TheVariants.{Stuck}
use Rattle.judge.proofs.Follows.{Follows}
use Rattle.judge.proofs.judge.Given as goal

abbrev pub invariant-loop-place : goal.invariant-loop-place
invariant-loop-place l = (l.x.deep ≤ l.place) × (l.x.half < 16) × (l.x.stage ≡ Stuck → ⊥) × Follows l.text l.place l.x
