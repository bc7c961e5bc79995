use Prim.Native.Nat.{ℕ, ◌+◌, ◌≤◌}
use mathlib.Core.Path.{◌≡◌}
use native.Mathlib.Omega.{arith}
use borrow.Author.Count.{below_more}
use lib.ListN.{get_or}
use lib.Seq.{get_or-drop}
use Rattle.buffers.proofs.OneMore.{fails, part_all}
use Rattle.two_rooms.specs.Side.{both}
use Rattle.parting.specs.Named.{OnePart}
use Rattle.parting.specs.CellRows.{row_width}
use Rattle.parting.proofs.Moves.agree_rooms.Goals as goal

pub returns-then-part-step : goal.returns-then-part-step
returns-then-part-step c = let s = c.args.self.now.least.now in
    fails (λ d. c.if-part-step.true (rw (c.step.ensures.0, c.step-in-loop-x.ensures.0, part_all row_width s, get_or-drop row_width s c.loop-x.x-index 0) (d _ (omega arith) (omega arith))))

pub loop-x-preserved : goal.loop-x-preserved
loop-x-preserved c = let a = c.args in
    let s = a.self.now.least.now in
    let next = (both a.self.now.pair.now.left a.self.now.pair.now.right).next in
    let led : ℕ → Type 0 = λ j. row_width ≤ j → OnePart a.part.now (next a.p (get_or s j 0)) (next a.q (get_or s j 0)) in
    let e : row_width + (c.loop-x.x-index + 1) ≡ row_width + c.loop-x.x-index + 1 = omega arith in
    rw e (below_more led _ c.loop-x.invariant (λ m. rw (← get_or-drop row_width s c.loop-x.x-index 0, ← part_all row_width s, ← c.step.ensures.0, ← c.step-in-loop-x.ensures.0) c.if-part-step.false))
