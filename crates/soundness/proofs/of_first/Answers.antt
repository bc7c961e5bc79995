-- Each class that is taken is one of the first i; over these the least is found one by one.
use Prim.Native.Nat.{ℕ}
use mathlib.Core.Path.{◌≡◌, ◌∙◌}
use mathlib.Core.List.{List}
use native.Mathlib.Omega.{arith}
use borrow.Author.Rules.{rules}
use Rattle.ways.specs.LeastOver.{LeastOver}
use Rattle.soundness.specs.WaysJudged.{key_of}
use Rattle.soundness.proofs.WaysJudged.{least_first, least_next}
use Rattle.soundness.proofs.of_first.Goals as goal
use Rattle.soundness.proofs.of_first.Goals.{After-next_key-one, After-min-two, After-min-three}

-- the least over the first i classes is r
abbrev Over : List ℕ → List ℕ → ℕ → ℕ → ℕ → Type 0
Over room list q i r = LeastOver room (key_of room) list i q r

one : (c : After-next_key-one) → Over c.args.room.now c.args.list.now c.args.q 1 c.next_key-one.result
one c = least_first c.next_key-one.ensures (search rules)

two : (c : After-min-two) → Over c.args.room.now c.args.list.now c.args.q 1 c.next_key-one.result
    → Over c.args.room.now c.args.list.now c.args.q 2 c.min-two.result
two c o = least_next o (c.min-two.ensures ∙ rw c.next_key.ensures)

three : (c : After-min-three) → Over c.args.room.now c.args.list.now c.args.q 2 c.min-two.result
    → Over c.args.room.now c.args.list.now c.args.q 3 c.min-three.result
three c o = least_next o (c.min-three.ensures ∙ rw c.next_key-2.ensures)

pub returns-then-i-eq2 : goal.returns-then-i-eq2
returns-then-i-eq2 c = let a = goal.at.returns-then-i-eq2 c in rw c.if-i-eq2.true (two a.After-min-two (one a.After-next_key-one))

pub returns-then-i-eq3 : goal.returns-then-i-eq3
returns-then-i-eq3 c =
    let a = goal.at.returns-then-i-eq3 c in
    rw c.if-i-eq3.true (three a.After-min-three (two a.After-min-two (one a.After-next_key-one)))

pub returns : goal.returns
returns c =
    let a = goal.at.returns c in
    let e : c.args.i ≡ 4 = omega (arith, c.requires.i_nonzero, c.if-i-eq1.false, c.if-i-eq2.false, c.if-i-eq3.false) in
    rw e (least_next (three a.After-min-three (two a.After-min-two (one a.After-next_key-one))) (c.min.ensures ∙ rw c.next_key-3.ensures))
