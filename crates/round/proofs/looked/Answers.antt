use Prim.Native.Nat.{ℕ, ◌+◌, ◌≤◌, ◌<◌}
use native.Mathlib.Omega.{arith}
use borrow.Author.Count.{below_more}
use Rattle.signs.specs.Signs.{Seen, Calm}
use Rattle.signs.proofs.Signs.{signs_none, seen_all, seen_past, seen_gap}
use Rattle.round.proofs.looked.Goals as goal
use Rattle.round.proofs.looked.Goals.{In-Some, then-h-q+else-sign-touched-ne0, else-h-q}

-- the states up to q are passed over, which are calm
passed : (c : In-Some) → let a = c.args in
    Seen a.part.now a.touched c.loop-q.seen c.in-Some.q × ((x : ℕ) → x < c.in-Some.q → a.at ≤ x → Calm a.part.now a.touched x)
passed c = let v = c.loop-q.invariant in let (l, h, g) = c.in-Some.ensures in seen_gap v.seen c.in-Some.q g c.requires.named (omega arith) v.calm

pub loop-q-preserved : goal.loop-q-preserved
loop-q-preserved c =
    let a = c.args in
    let q = c.in-Some.q in
    let (l, h, g) = c.in-Some.ensures in
    let (s, calm) = passed (goal.at.loop-q-preserved c).In-Some in
    let more = below_more (λ (x : ℕ). a.at ≤ x → Calm a.part.now a.touched x) q calm in
    let d : Seen a.part.now a.touched c.if-h-q.seen (q + 1) × ((x : ℕ) → x < q + 1 → a.at ≤ x → Calm a.part.now a.touched x) =
    elim c.if-h-q.branch [
      | then-h-q+else-sign-touched-ne0 w ↦
          (rw w.seen-is (seen_past s w.if-h-q.true), more (λ m k. signs_none _ _ _ _ _ w.sign.ensures w.sign-then-h-q.ensures w.if-sign-touched-ne0.false))
      | else-h-q w ↦ (rw w.seen-is (seen_all _ _ _), more (λ m k. absurd (omega (arith, k, w.if-h-q.false))))
    ] in
    record { low = omega arith; high = omega arith; seen = d.0; calm = d.1 }

pub returns : goal.returns
returns c =
    let v = c.loop-q.invariant in
    let (s, calm) = seen_gap v.seen c.args.n c.in_default.ensures c.requires.named (omega arith) v.calm in
    record { found = tt; seen_to = s; calm_between = calm }
