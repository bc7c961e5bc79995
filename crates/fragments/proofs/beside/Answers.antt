-- Last of the one is linked to First of the other, then both are cut, unless they are wanted.
use Prim.Native.Nat.{◌+◌}
use mathlib.Core.Path.{refl}
use mathlib.Core.Bool.{not, ◌&&◌, ◌||◌}
use Rattle.scope.specs.Bytes.{between}
use Rattle.scope.specs.Positions.Bits.{has}
use Rattle.sets.specs.Value.{set_at}
use Rattle.sets.specs.Layout.{first_at, last_at}
use Rattle.spans.specs.Became.{Became}
use Rattle.fragments.proofs.FollowLinks.{taken_out, left_in, beside_made}
use Rattle.fragments.proofs.beside.Goals as goal
use Rattle.fragments.proofs.beside.Goals.{then-not-a, else-not-a, then-not-b, else-not-b}

pub returns : goal.returns
returns c =
    let a = c.args.a in
    let b = c.args.b in
    let m = c.link.new.words in
    let n = c.if-not-a.words in
    let f : Became m n first_at (λ q. has (set_at m first_at) q && (a.null || not (between (a.count + 1) b.count q))) =
    elim c.if-not-a.branch [
      | then-not-a w ↦ rw w.words-is (taken_out _ _ a.null w.if-not-a.true w.remove.ensures)
      | else-not-a w ↦ rw w.words-is (left_in _ _ a.null w.if-not-a.false)
    ] in
    let l : Became n c.if-not-b.words last_at (λ q. has (set_at n last_at) q && (b.null || not (between (c.args.from + 1) a.count q))) =
    elim c.if-not-b.branch [
      | then-not-b w ↦ rw w.words-is (taken_out _ _ b.null w.if-not-b.true w.remove-then-not-b.ensures)
      | else-not-b w ↦ rw w.words-is (left_in _ _ b.null w.if-not-b.false)
    ] in
    beside_made c.requires.1 c.link.ensures f l refl refl refl
