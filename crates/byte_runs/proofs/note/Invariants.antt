-- The invariant: the byte values of the words below w are noted.
use Rattle.byte_runs.proofs.Ends.{WordsNoted}
use Rattle.byte_runs.proofs.note.Given as goal

abbrev pub invariant-loop-w : goal.invariant-loop-w
invariant-loop-w l = WordsNoted l.bytes l.p l.initial.ends l.ends l.w
