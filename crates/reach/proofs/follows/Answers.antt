use Prim.Native.Nat.{◌+◌, ◌*◌}
use mathlib.Core.Path.{◌≡◌, sym, ap, ◌∙◌}
use native.Mathlib.Omega.{arith}
use Rattle.scope.specs.Positions.Bits.{joined}
use Rattle.sets.specs.Value.{set_value}
use Rattle.byte_classes.proofs.Unions.{joined_none}
use Rattle.reach.specs.Reach.{follow_of}
use Rattle.reach.proofs.Passing.{word_bits}
use Rattle.reach.proofs.follows.Goals as goal

pub loop-w-init : goal.loop-w-init
loop-w-init c = c.none-union.ensures ∙ sym (joined_none _)

pub loop-w-preserved : goal.loop-w-preserved
loop-w-preserved c =
    let l = c.loop-w in
    let a = c.args in
    let e : 64 * l.w + 64 ≡ 64 * (l.w + 1) = omega arith in
    c.follows_word-union.ensures (set_value a.s.words) (word_bits a.s.words l.w (omega arith)) l.invariant
    ∙ ap (joined (follow_of a.words.now (set_value a.s.words))) e
