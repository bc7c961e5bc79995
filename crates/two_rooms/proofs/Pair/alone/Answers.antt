-- The states of the left room are closed.
use Rattle.two_rooms.proofs.Rooms.{side_left}
use Rattle.two_rooms.proofs.Pair.alone.Goals as goal

pub invariant_of-result : goal.invariant_of-result
invariant_of-result c =
    let s = c.bytes.ensures in
    record { first_states = rw (c.new.ensures, c.new-2.ensures, s.bytes, c.bytes-2.ensures.bytes, c.head.ensures.counts.0) (side_left _ _ s.sound s.sound) }
