use Prim.Native.Nat.{ℕ, ◌+◌, ◌*◌, ◌≤◌, ◌<◌}
use mathlib.Core.Path.{◌≡◌, refl}
use mathlib.Core.Bool.{Bool}
use mathlib.Core.List.{List}
use native.Mathlib.Omega.{arith}
use lib.ListN.{get_or}
use Rattle.scope.specs.Limits.{byte_values, ways_at, room_bytes}
use Rattle.scope.specs.Machines.Room.{states_of, Below, SoundTable, SoundWays}
use Rattle.buffers.specs.Stored.{Decides}
use Rattle.buffers.proofs.OneMore.{and_true, and_false}
use Rattle.ways.specs.Held.{HeldClasses}
use Rattle.ways.proofs.HeldClasses.{held_some}
use Rattle.soundness.specs.WaysJudged.{four, Lowered, RightKeys}
use Rattle.soundness.proofs.WaysJudged.{ways_judged}
use Rattle.soundness.proofs.are_ways.Goals as goal
use Rattle.soundness.proofs.are_ways.Goals.{After-loop-i}

-- all classes are passed
all : (c : After-loop-i) → c.loop-i.i ≡ c.held-count.result
all c = omega (arith, c.loop-i.invariant.1, c.loop-i-test.false)

judged : {m l least : List ℕ} {i n s : ℕ} {t : Bool} → SoundTable m → ((j : ℕ) → get_or m j 0 < byte_values) → HeldClasses m l n
    → i ≡ n → Lowered m l i (states_of m) least → s ≡ states_of m
    → Decides t (RightKeys m least s × Below m (ways_at + s * 2) room_bytes 1) → Decides t (SoundWays m)
judged s g h e o f d = ways_judged s g h (rw e at o) (rw f at d)

pub begin-requires : goal.begin-requires
begin-requires c = let h = c.held-count.ensures in (omega arith, omega arith, λ j x. h.below j (omega (arith, held_some h)))

pub loop-i-init : goal.loop-i-init
loop-i-init c = let h = held_some c.held-count.ensures in (omega (arith, h), omega (arith, h), c.begin.ensures)

pub lower-requires-clause-four_bound : goal.lower-requires-clause-four_bound
lower-requires-clause-four_bound c =
    let h = c.held-count.ensures in
    let four_left : c.loop-i.i + four ≤ c.held-count.result = omega (arith, c.loop-i.invariant.0, c.loop-i-test.true) in
    (omega (arith, h.few), λ j x. h.below j (omega arith))

pub returns-then-are_right : goal.returns-then-are_right
returns-then-are_right c =
    let b = c.bytes-bytes.ensures in
    judged c.head-n.ensures.sound b.fit c.held-count.ensures (all (goal.at.returns-then-are_right c).After-loop-i) c.loop-i.invariant.2
    c.head-n.ensures.counts.0 (rw b.bytes at (and_true c.are_right.ensures c.if-are_right.true c.are_below.ensures refl))

pub returns-else-are_right : goal.returns-else-are_right
returns-else-are_right c =
    let b = c.bytes-bytes.ensures in
    judged c.head-n.ensures.sound b.fit c.held-count.ensures (all (goal.at.returns-else-are_right c).After-loop-i) c.loop-i.invariant.2
    c.head-n.ensures.counts.0 (and_false (rw b.bytes at c.are_right.ensures) c.if-are_right.false refl)
