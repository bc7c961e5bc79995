-- The bytes of the rows and the others are all.
use Prim.Native.Nat.{◌≤◌}
use native.Mathlib.Omega.{arith}
use Rattle.std.proofs.Math.Logic.{∥∥₁_elim}
use Rattle.std.proofs.Props.{props}
use Rattle.buffers.proofs.OneMore.{fails}
use Rattle.parting.specs.CellRows.{row_width}
use Rattle.parting.proofs.Leading.{led_all}
use Rattle.parting.proofs.Moves.agree.Goals as goal

pub returns-then-agree_rows : goal.returns-then-agree_rows
returns-then-agree_rows c = record {
  yes = λ e. ∥∥₁_elim c.args.self.now.each_kind (hlevel props) (λ k. led_all _ _ _ row_width k c.requires.p_le_q.2
      (c.agree_rows.ensures.yes c.if-agree_rows.true) (c.agree_rooms.ensures.yes e));
  no = λ e g. c.agree_rooms.ensures.no e (λ i l m. g.there _ (c.args.self.now.bytes i l (omega arith)));
}

pub returns-else-agree_rows : goal.returns-else-agree_rows
returns-else-agree_rows c =
    let w : row_width ≤ _ = c.args.self.now.wide in
    rw c.if-agree_rows.false (fails (λ g. c.agree_rows.ensures.no c.if-agree_rows.false (λ i l m. g.there _ (c.args.self.now.bytes i (omega arith) (omega arith)))))
