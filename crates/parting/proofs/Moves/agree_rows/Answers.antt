use Prim.Native.Nat.{ℕ, ◌+◌, ◌/◌, ◌%◌, ◌^◌, ◌<◌}
use mathlib.Core.Path.{◌≡◌, refl, sym, ◌∙◌}
use native.Mathlib.Omega.{arith}
use lib.ListN.{get_or}
use Rattle.buffers.proofs.OneMore.{each_more, each_not}
use Rattle.two_rooms.specs.Side.{both_limit, both}
use Rattle.parting.specs.Named.{OnePart}
use Rattle.parting.specs.CellRows.{cell_values}
use Rattle.parting.proofs.Cells.{row_cell, rest_more}
use Rattle.parting.proofs.Moves.agree_rows.Goals as goal
use Rattle.parting.proofs.Moves.agree_rows.Goals.{In-loop-i, else-part-x, then-part-x}

-- the next cell of the state r
cell : (c : In-loop-i) (r : ℕ) → r < c.args.q + 1 →
    let m = c.args.self.now in
    let y = (both m.pair.now.left m.pair.now.right).next r (get_or m.least.now c.loop-i._i 0) in
    (get_or m.rows.now r 0 / cell_values ^ c.loop-i._i % cell_values ≡ y) × (y < both_limit)
cell c r h = row_cell _ _ _ _ c.requires.cell_rows r c.loop-i._i h c.loop-i-test.true

pub bounds-part-x : goal.bounds-part-x
bounds-part-x c = let (e, l) = cell (goal.at.bounds-part-x c).In-loop-i c.args.p (omega arith) in rw (c.loop-i.invariant.p, e) l

pub bounds-part-y : goal.bounds-part-y
bounds-part-y c = let (e, l) = cell (goal.at.bounds-part-y c).In-loop-i c.args.q (omega arith) in rw (c.loop-i.invariant.q, e) l

pub loop-i-preserved : goal.loop-i-preserved
loop-i-preserved c =
    let s = c.args in
    let m = s.self.now in
    let l = c.loop-i in
    let v = l.invariant in
    let next = (both m.pair.now.left m.pair.now.right).next in
    let name : ℕ → ℕ = λ r. get_or s.part.now r 0 in
    let led : ℕ → Type 0 = λ i. OnePart s.part.now (next s.p (get_or m.least.now i 0)) (next s.q (get_or m.least.now i 0)) in
    let y : name (l.x % cell_values) ≡ name (next s.p (get_or m.least.now l._i 0)) = rw (v.p, (cell (goal.at.loop-i-preserved c).In-loop-i s.p (omega arith)).0) refl in
    let z : name (l.y % cell_values) ≡ name (next s.q (get_or m.least.now l._i 0)) = rw (v.q, (cell (goal.at.loop-i-preserved c).In-loop-i s.q (omega arith)).0) refl in
    record {
      p = rw v.p (rest_more _ l._i);
      q = rw v.q (rest_more _ l._i);
      same = elim c.if-part-x.branch [
        | then-part-x w ↦ rw w.same-is (each_not led (omega arith) v.same (λ e. w.if-part-x.true (y ∙ e ∙ sym z)))
        | else-part-x w ↦ rw w.same-is (each_more led (omega arith) v.same (sym y ∙ w.if-part-x.false ∙ z))
      ];
    }
