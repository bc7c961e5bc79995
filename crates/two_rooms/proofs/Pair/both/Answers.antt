-- All states are closed.
use Rattle.two_rooms.proofs.Rooms.{side_both}
use Rattle.two_rooms.proofs.Pair.both.Goals as goal

pub invariant_of-result : goal.invariant_of-result
invariant_of-result c =
    let l = c.bytes.ensures in
    let r = c.bytes-2.ensures in
    record { first_states = rw (c.new.ensures, c.new-2.ensures, l.bytes, r.bytes, c.head.ensures.counts.0, c.head-2.ensures.counts.0) (side_both _ _ l.sound r.sound) }
