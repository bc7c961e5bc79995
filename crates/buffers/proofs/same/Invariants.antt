-- `alike` decides whether the bytes so far are alike.
use Rattle.buffers.specs.Stored.{Decides, BeginAlike}
use Rattle.buffers.proofs.same.Given as goal

abbrev pub invariant-loop-i : goal.invariant-loop-i
invariant-loop-i l = Decides l.alike (BeginAlike l.a l.b l.i)
