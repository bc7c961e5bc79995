-- ROOM is judged by the length of the room to be read and by `is_lent`, FORM by `SoundRoom::of`; the scratch is cleared on every way out after the first.
use mathlib.Core.Path.{refl, ◌∙◌}
use native.Mathlib.Omega.{arith}
use Rattle.scope.specs.Operations.Minimise.{MinimiseLent, no_room, no_form, minimised}
use Rattle.buffers.proofs.OneMore.{cleared_after, all_kept}
use Rattle.smallest.proofs.minimise.Goals as goal
use Rattle.smallest.proofs.minimise.Goals.{Else-not-is_lent, then-from-lt-ROOM-via-then-from-lt-ROOM, then-from-lt-ROOM-via-else-from-lt-ROOM+then-not-is_lent}

-- what is lent, by both tests
lent : (c : Else-not-is_lent) → MinimiseLent c.args.from.now c.args.to.now c.args.bytes.now c.args.words.now
lent c = let l = c.is_lent.ensures.yes c.if-not-is_lent.false in record { from_long = c.if-from-lt-ROOM.false; room_long = l.room_long; scratch = l.scratch }

pub returns-then-from-lt-ROOM : goal.returns-then-from-lt-ROOM
returns-then-from-lt-ROOM c = no_room
    (λ l. elim c.then-from-lt-ROOM.branch [
      | then-from-lt-ROOM-via-then-from-lt-ROOM w ↦ omega (arith, l.from_long, w.if-from-lt-ROOM.true)
      | then-from-lt-ROOM-via-else-from-lt-ROOM+then-not-is_lent w ↦ w.is_lent.ensures.no w.if-not-is_lent.true (record { room_long = l.room_long; scratch = l.scratch })
    ])
    refl (record { bytes_kept = refl; words_kept = refl })

pub returns-in_default : goal.returns-in_default
returns-in_default c =
    let l = lent (goal.at.returns-in_default c).Else-not-is_lent in
    no_form l (c.of.ensures.none c.in_default.is) refl c.clear.ensures

pub returns : goal.returns
returns c =
    let l = lent (goal.at.returns c).Else-not-is_lent in
    let s = c.in-Some.ensures.some in
    let r = rw (c.table.ensures.table ∙ s.0) at (c.smallest.ensures.canonical) in
    minimised l s.1 r.0 r.1 r.2
    (cleared_after (omega arith) (omega arith) (all_kept _ 0) c.smallest.ensures.tail_kept c.clear-2.ensures)
