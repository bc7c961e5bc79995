use Rattle.sets.specs.Value.{set_value}
use Rattle.seats.proofs.Seats.{guessed_new}
use Rattle.seats.proofs.seat.Goals as goal

pub returns-clause-guessed : goal.returns-clause-guessed
returns-clause-guessed c = rw c.remainder-at.ensures (guessed_new c.requires.2 (set_value c.args.s.words) c.args.n c.store.ensures)
