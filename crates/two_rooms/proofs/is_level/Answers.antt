use Prim.Native.Nat.{ℕ, ◌+◌, ◌-◌}
use mathlib.Core.Path.{◌≡◌, ap, sym, ◌∙◌}
use native.Mathlib.Omega.{arith}
use lib.ListN.{get_or}
use Rattle.scope.specs.Limits.{classes_at}
use Rattle.scope.specs.Machines.Room.{class_of}
use Rattle.buffers.proofs.OneMore.{holds, each_more, each_not}
use Rattle.two_rooms.specs.Kinds.{stretch}
use Rattle.two_rooms.proofs.is_level.Goals as goal
use Rattle.two_rooms.proofs.is_level.Goals.{else-bytes-y, then-bytes-y}

pub loop-y-init : goal.loop-y-init
loop-y-init c = holds (λ y h l. absurd (omega arith))

pub bounds-bytes-y : goal.bounds-bytes-y
bounds-bytes-y c = let e = c.bytes-bytes.ensures in omega (arith, rw (← e.bytes) at e.sound.long)

pub bounds-bytes-y-in-loop-y : goal.bounds-bytes-y-in-loop-y
bounds-bytes-y-in-loop-y c = let e = c.bytes-bytes.ensures in omega (arith, rw (← e.bytes) at e.sound.long)

pub loop-y-preserved : goal.loop-y-preserved
loop-y-preserved c =
    let m = c.bytes-bytes.result.now in
    let y = c.loop-y.y in
    let l = c.loop-y.invariant in
    let as_before : ℕ → Type 0 = λ z. class_of m z ≡ class_of m (z - 1) in
    let at : get_or m (classes_at - 1 + y) 0 ≡ get_or m (classes_at + (y - 1)) 0 = ap (λ (i : ℕ). get_or m i 0) (omega arith) in
    elim c.if-bytes-y.branch [
      | then-bytes-y w ↦ rw w.level-is (each_not as_before (omega arith) l (λ e. w.if-bytes-y.true (sym (e ∙ sym at))))
      | else-bytes-y w ↦ rw w.level-is (each_more as_before (omega arith) l (sym w.if-bytes-y.false ∙ at))
    ]

pub returns : goal.returns
returns c = let e : c.loop-y.y ≡ c.args.x + stretch = omega arith in rw (← c.bytes-bytes.ensures.bytes, ← e) c.loop-y.invariant
