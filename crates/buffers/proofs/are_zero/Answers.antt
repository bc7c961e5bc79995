-- The part that is read side by side, what stands before it and what stands behind it are all of the bytes; each `&&` decides one of them more.
use Prim.Native.Nat.{ℕ, ◌+◌, ◌-◌, ◌*◌, ◌/◌}
use mathlib.Core.Path.{refl}
use native.Mathlib.Omega.{arith}
use Rattle.buffers.specs.Stored.{Decides, AtMost}
use Rattle.buffers.proofs.OneMore.{and_true, and_false, greatest_decide, most_three}
use Rattle.buffers.proofs.are_zero.Goals as goal
use Rattle.buffers.proofs.are_zero.Goals.{Joined-are_zero_halves, then-are_zero_halves, else-are_zero_halves}

-- where the first whole block begins, and half of the blocks from there on that are read side by side
abbrev at : ℕ → ℕ
at from = (from + 15) / 16 * 16

abbrev half : ℕ → ℕ → ℕ
half from to = (to - at from) / 64 * 32

first_two : (d : Joined-are_zero_halves)
    → Decides d.if-are_zero_halves.value
    (AtMost d.args.m.now (at d.args.from) (at d.args.from + half d.args.from d.args.to + half d.args.from d.args.to) 0 × AtMost d.args.m.now d.args.from (at d.args.from) 0)
first_two d = elim d.if-are_zero_halves.branch [
  | then-are_zero_halves w ↦ and_true d.are_zero_halves.ensures w.if-are_zero_halves.true
      (greatest_decide d.args.m.now _ _ _ w.greatest-then-are_zero_halves.ensures) w.value-is
  | else-are_zero_halves w ↦ and_false d.are_zero_halves.ensures w.if-are_zero_halves.false w.value-is
]

pub returns-then-to-at : goal.returns-then-to-at
returns-then-to-at c = greatest_decide c.args.m.now c.greatest.result _ _ c.greatest.ensures

pub returns-then-greatest-eq0 : goal.returns-then-greatest-eq0
returns-then-greatest-eq0 c =
    let m = c.args.m.now in
    let last = greatest_decide m _ _ _ c.greatest-then-greatest-eq0.ensures in
    most_three m _ _ _ _ 0 (omega arith) (omega arith) (omega arith)
    (and_true (first_two (goal.at.returns-then-greatest-eq0 c).Joined-are_zero_halves) c.if-greatest-eq0.true last refl)

pub returns-else-greatest-eq0 : goal.returns-else-greatest-eq0
returns-else-greatest-eq0 c = most_three c.args.m.now _ _ _ _ 0 (omega arith) (omega arith) (omega arith)
    (and_false (first_two (goal.at.returns-else-greatest-eq0 c).Joined-are_zero_halves) c.if-greatest-eq0.false refl)
