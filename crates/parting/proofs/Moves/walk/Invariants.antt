-- Neither the state that begins the old part, where that is not p itself, nor any of the chain that was passed agrees with q; the chain falls.
use lib.ListN.{get_or}
use Rattle.two_rooms.specs.Side.{both}
use Rattle.parting.specs.Named.{Agree}
use Rattle.parting.proofs.Links.{rank, Facing}
use Rattle.parting.proofs.Moves.walk.Given as goal

abbrev pub invariant-loop-p : goal.invariant-loop-p
invariant-loop-p l = Facing (Agree (both l.self.pair.now.left l.self.pair.now.right).next l.part) l.part (get_or l.part l.q 0) l.q l.p

abbrev pub decreases-loop-p : goal.decreases-loop-p
decreases-loop-p l = rank (get_or l.part l.q 0) l.q l.p
