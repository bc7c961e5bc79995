use mathlib.Core.Path.{◌≡◌, ◌∙◌, sym}
use native.Mathlib.Omega.{arith}
use borrow.Author.Rules.{rules}
use Rattle.buffers.proofs.OneMore.{holds, each_more, each_not}
use Rattle.soundness.proofs.are_right.Invariants.{Right}
use Rattle.soundness.proofs.are_right.Goals as goal
use Rattle.soundness.proofs.are_right.Goals.{else-key-right_key, then-key-right_key}

pub loop-q-init : goal.loop-q-init
loop-q-init c = holds (λ j h. absurd (omega arith))

pub loop-q-preserved : goal.loop-q-preserved
loop-q-preserved c = let l = c.loop-q in let P = Right c.args.room.now c.args.least.now in
    let e = c.key.ensures in
    let f = c.right_key.ensures in
    elim c.if-key-right_key.branch [
      | then-key-right_key w ↦ rw w.right-is (each_not P (omega arith) l.invariant (λ z. w.if-key-right_key.true (e ∙ z ∙ sym f)))
      | else-key-right_key w ↦ rw w.right-is (each_more P (omega arith) l.invariant (sym e ∙ w.if-key-right_key.false ∙ f))
    ]

pub returns : goal.returns
returns c = let e : c.loop-q.q ≡ c.args.n = search rules in
    let d = rw e at c.loop-q.invariant in
    record { yes = λ t q h. d.yes t q h (omega arith); no = λ t f. d.no t (λ j h k. f j h) }
