-- The head decides whether the five parts are judged; of these, each `&&` decides one more.
use Prim.Native.Nat.{◌+◌}
use native.Mathlib.Nat.{mul-le-mul}
use native.Mathlib.Omega.{arith}
use borrow.Author.Rules.{rules}
use Rattle.buffers.proofs.OneMore.{fails, and_true, and_false}
use Rattle.scope.specs.Limits.{classes_at, marks_at, cells_at}
use Rattle.scope.specs.Machines.Room.{Below}
use Rattle.buffers.specs.Stored.{Decides}
use Rattle.room.proofs.HeadAndParts.{PartsBelow, sound_last, sound_not}
use Rattle.room.proofs.is_table.Goals as goal
use Rattle.room.proofs.is_table.Goals.{Joined-are_below-3, then-are_below, else-are_below, then-are_below-2, else-are_below-2, then-are_below-3, else-are_below-3}

judged : (d : Joined-are_below-3) → Decides d.if-are_below-3.value (PartsBelow d.args.room.now d.head-machine.result.states d.head-machine.result.classes)
judged d =
    let m = d.args.room.now in
    let n = d.head-machine.result.states in
    let k = d.head-machine.result.classes in
    let two : Decides d.if-are_below.value (Below m classes_at marks_at k × Below m marks_at (marks_at + n) 2) = elim d.if-are_below.branch [
      | then-are_below w ↦ and_true d.are_below.ensures w.if-are_below.true w.are_below-then-are_below.ensures w.value-is
      | else-are_below w ↦ and_false d.are_below.ensures w.if-are_below.false w.value-is
    ] in
    let three : Decides d.if-are_below-2.value ((Below m classes_at marks_at k × Below m marks_at (marks_at + n) 2) × Below m (marks_at + n) cells_at 1) = elim d.if-are_below-2.branch [
      | then-are_below-2 w ↦ and_true two w.if-are_below-2.true w.are_below-then-are_below-2.ensures w.value-is
      | else-are_below-2 w ↦ and_false two w.if-are_below-2.false w.value-is
    ] in
    elim d.if-are_below-3.branch [
      | then-are_below-3 w ↦ and_true three w.if-are_below-3.true w.are_below-then-are_below-3.ensures w.value-is
      | else-are_below-3 w ↦ and_false three w.if-are_below-3.false w.value-is
    ]

pub returns-then-room-lt-ROOM : goal.returns-then-room-lt-ROOM
returns-then-room-lt-ROOM c = fails (λ s. omega (arith, s.long))

pub returns-then-n-lt1 : goal.returns-then-n-lt1
returns-then-n-lt1 c = fails (λ s. omega (arith, c.head-machine.ensures.0, s.some_state))

pub returns-then-n-gt-STATES : goal.returns-then-n-gt-STATES
returns-then-n-gt-STATES c = fails (λ s. omega (arith, c.head-machine.ensures.0, s.few_states))

pub returns-then-k-lt1 : goal.returns-then-k-lt1
returns-then-k-lt1 c = fails (λ s. omega (arith, c.head-machine.ensures.1, s.some_class))

pub returns-then-k-gt-CLASSES : goal.returns-then-k-gt-CLASSES
returns-then-k-gt-CLASSES c = fails (λ s. omega (arith, c.head-machine.ensures.1, s.few_classes))

pub overflow_mul-cells_end : goal.overflow_mul-cells_end
overflow_mul-cells_end c = omega (arith, mul-le-mul c.if-n-gt-STATES.false c.if-k-gt-CLASSES.false)

pub overflow_add-cells_end : goal.overflow_add-cells_end
overflow_add-cells_end c = omega (arith, mul-le-mul c.if-n-gt-STATES.false c.if-k-gt-CLASSES.false)

pub are_below-requires-then-are_below-3 : goal.are_below-requires-then-are_below-3
are_below-requires-then-are_below-3 c = (omega (arith, mul-le-mul c.if-n-gt-STATES.false c.if-k-gt-CLASSES.false), search rules)

pub are_zero-requires : goal.are_zero-requires
are_zero-requires c = (omega (arith, mul-le-mul c.if-n-gt-STATES.false c.if-k-gt-CLASSES.false), search rules)

pub returns-then-are_below-4 : goal.returns-then-are_below-4
returns-then-are_below-4 c = sound_last c.if-room-lt-ROOM.false c.head-machine.ensures.0 c.head-machine.ensures.1
    (c.if-n-lt1.false, c.if-n-gt-STATES.false, c.if-k-lt1.false, c.if-k-gt-CLASSES.false)
    ((judged (goal.at.returns-then-are_below-4 c).Joined-are_below-3).yes c.if-are_below-4.true) c.are_zero.ensures

pub returns-else-are_below-4 : goal.returns-else-are_below-4
returns-else-are_below-4 c = let h = c.head-machine.ensures in
    sound_not h.0 h.1 c.if-are_below-4.false (judged (goal.at.returns-else-are_below-4 c).Joined-are_below-3)
