-- The invariant: the first c cells of the row lead to the sets that they should, all of them among the m reached ones (`Filling`).
use Rattle.sets.specs.Value.{set_value}
use Rattle.seats.specs.Seats.{Guesses}
use Rattle.reach.proofs.Cells.{Filling}
use Rattle.reach.proofs.row.Given as goal

abbrev pub invariant-loop-c : goal.invariant-loop-c
invariant-loop-c l = Filling l.initial.image l.initial.words l.masks l.k l.q l.n (set_value l.union.words) l.image l.words l.m l.c × Guesses l.words l.guesses l.m
