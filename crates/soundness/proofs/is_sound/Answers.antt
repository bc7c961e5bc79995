-- The table decides whether the ways home are judged.
use native.Mathlib.Omega.{arith}
use Rattle.buffers.proofs.OneMore.{fails}
use Rattle.soundness.proofs.Whole.{whole_sound, sound_whole}
use Rattle.soundness.proofs.is_sound.Goals as goal

pub returns-then-room-lt-ROOM : goal.returns-then-room-lt-ROOM
returns-then-room-lt-ROOM c = fails (λ s. omega (arith, c.if-room-lt-ROOM.true, s.table.long))

pub returns-in-None : goal.returns-in-None
returns-in-None c = fails (λ s. c.of.ensures.none c.in-None.is (sound_whole _ c.if-room-lt-ROOM.false s).table)

pub returns-in-Some : goal.returns-in-Some
returns-in-Some c =
    let long = c.if-room-lt-ROOM.false in
    let (e, t) = c.in-Some.ensures.some in
    let d = rw e at c.are_ways.ensures in
    record { yes = λ y. whole_sound _ long (record { table = t; ways = d.yes y }); no = λ y s. d.no y (sound_whole _ long s).ways }
