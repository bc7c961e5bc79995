use Prim.Native.Nat.{◌+◌}
use Prim.Native.Char.{code}
use mathlib.Core.Path.{refl, sym, ap, ◌∙◌}
use mathlib.Core.Bool.{not, not-not, false≢true}
use native.Mathlib.Omega.{arith}
use borrow.Author.Rules.{rules}
use Rattle.scope.specs.Bytes.{byte}
use Rattle.scope.specs.Text.Grammar.{branches, exprs}
use Rattle.leaves.proofs.ByteByByte.{inside, byte_here, was_byte, no_byte}
use Rattle.factors.proofs.Rights.{right_moved}
use Rattle.pattern.proofs.Tails.{ready_atom, ready_part}
use Rattle.pattern.proofs.Groups.{ready_inner, answer_inner}
use Rattle.pattern.proofs.Turns.{stop_told, factor_fit, factor_found, no_factor, no_branch, going, going_some, going_small, parts_more, parts_found, join_factor, join_branch}
use Rattle.pattern.proofs.readers.+atom_branch_expr_factor.Goals as goal

-- ---- an atom

pub atom-expr-inner-requires : goal.atom-expr-inner-requires
atom-expr-inner-requires t c =
    let p = c.requires.0 in
    (omega arith, (ready_inner p (byte_here _ _ p.inside) c.if-text-at-eq40.true, search rules))

pub atom-returns-then-text-at-eq40 : goal.atom-returns-then-text-at-eq40
atom-returns-then-text-at-eq40 t c =
    let p = c.requires.0 in answer_inner p (byte_here _ _ p.inside) c.if-text-at-eq40.true c.expr-inner.ensures (record { nexts = refl; counts = refl; nulls = refl })

-- ---- a factor

pub factor-atom-part-requires : goal.factor-atom-part-requires
factor-atom-part-requires t c = (omega arith, (ready_atom c.requires.0, search rules))

pub factor-marks-requires : goal.factor-marks-requires
factor-marks-requires t c = factor_fit c.requires.0 c.atom-part.ensures (search rules)

pub factor-returns : goal.factor-returns
factor-returns t c = factor_found c.requires.0 c.atom-part.ensures c.marks.ensures

-- ---- a branch

pub branch-loop-all-init : goal.branch-loop-all-init
branch-loop-all-init t c =
    let e = c.blank-all.ensures in
    (omega (arith, e.nexts), omega (arith, c.requires.0.inside, e.nexts), refl, no_factor e)

pub branch-factor-next-requires : goal.branch-factor-next-requires
branch-factor-next-requires t c =
    let p = c.requires.0 in
    (omega arith, (ready_part branches p (going branches p c.loop-all.invariant.3), search rules))

pub branch-beside-all-requires : goal.branch-beside-all-requires
branch-beside-all-requires t c =
    let p = c.requires.0 in
    let b = c.loop-all.invariant.3 in
    (going_some branches p b, going_small branches p b, omega (arith, c.requires.1, c.loop-all.invariant.2, c.factor-next.auto.words))

pub branch-loop-all-smaller : goal.branch-loop-all-smaller
branch-loop-all-smaller t c =
    let e = c.factor-next.ensures in
    omega (arith, e.on, e.inside, c.beside-all.ensures.nexts)

pub branch-loop-all-preserved : goal.branch-loop-all-preserved
branch-loop-all-preserved t c =
    let b = c.loop-all.invariant.3 in
    let e = c.factor-next.ensures in
    let m = c.beside-all.ensures in
    let on = stop_told c.args.text.now c.byte_at.ensures m.nexts c.ends_branch.ensures c.if-ends_branch.false in (
      omega (arith, e.on, m.nexts, c.loop-all.invariant.0),
      omega (arith, e.inside, m.nexts),
      search rules,
      parts_more branches b e (join_factor (going_small branches c.requires.0 b) m) m.nexts on,
    )

pub branch-returns-then-ends_branch : goal.branch-returns-then-ends_branch
branch-returns-then-ends_branch t c =
    let b = c.loop-all.invariant.3 in
    let p = c.requires.0 in
    let m = c.beside-all.ensures in
    let end = stop_told c.args.text.now c.byte_at.ensures m.nexts c.ends_branch.ensures c.if-ends_branch.true in
    parts_found branches b c.factor-next.ensures (join_factor (going_small branches p b) m) p m.nexts (λ z. false≢true (sym z ∙ end))

-- ---- an expression

pub expr-loop-all-init : goal.expr-loop-all-init
expr-loop-all-init t c =
    let e = c.blank-all.ensures in
    (omega (arith, e.nexts), omega (arith, c.requires.0.inside, e.nexts), refl, no_branch e)

pub expr-branch-next-requires : goal.expr-branch-next-requires
expr-branch-next-requires t c =
    let p = c.requires.0 in
    (omega arith, (ready_part exprs p (going exprs p c.loop-all.invariant.3), search rules))

pub expr-loop-all-preserved : goal.expr-loop-all-preserved
expr-loop-all-preserved t c =
    let s = c.args.text.now in
    let e = c.branch-next.ensures in
    let m = c.either-all.ensures in
    let bar = sym (c.byte_at.ensures ∙ ap (byte s) m.nexts) ∙ was_byte c.byte_at.result (code "|") (sym (rw not-not at (ap not c.if-ne.ensures))) in (
      omega (arith, e.on, m.nexts, c.loop-all.invariant.0),
      omega (arith, m.nexts, inside s c.branch-next.result.next (λ z. omega (arith, bar, z))),
      omega (arith, c.loop-all.invariant.2, c.branch-next.auto.words),
      parts_more exprs c.loop-all.invariant.3 e (λ so t x z. right_moved (join_branch m so t x z) (record { nexts = refl; counts = refl; nulls = refl })) (ap (λ n. n + 1) m.nexts) bar,
    )

pub expr-returns-then-ne : goal.expr-returns-then-ne
expr-returns-then-ne t c =
    let m = c.either-all.ensures in
    parts_found exprs c.loop-all.invariant.3 c.branch-next.ensures (join_branch m) c.requires.0 m.nexts
    (λ z. no_byte c.byte_at.result (code "|") (omega arith) (sym (rw not-not at (ap not c.if-ne.ensures))) (c.byte_at.ensures ∙ ap (byte c.args.text.now) m.nexts ∙ z))
