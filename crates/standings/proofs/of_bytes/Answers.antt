-- Each answer of the match is one law.
use mathlib.Core.Logic.{inl, inr, ⊎_elim}
use native.Mathlib.Omega.{arith}
use Rattle.scope.proofs.Machines.Run.{bytes_known}
use Rattle.standings.specs.Stand.{accepted}
use Rattle.standings.proofs.Standings.{stands_unfinished, stands_dead, stands_lost, stands_refused}
use Rattle.standings.proofs.of_bytes.Goals as goal

pub returns-in_default : goal.returns-in_default
returns-in_default c = stands_refused c.requires c.in_default.field-0 c.in_default.ensures

pub returns-in-Accepted : goal.returns-in-Accepted
returns-in-Accepted c = accepted (rw c.in-Accepted.is at c.in-Ok.ensures)

pub returns-in-Unfinished : goal.returns-in-Unfinished
returns-in-Unfinished c = stands_unfinished c.requires (bytes_known c.args.text.now (λ i. omega (arith, c.type_inv.text i))) (rw c.in-Unfinished.is at c.in-Ok.ensures)

pub returns-then-place-kept : goal.returns-then-place-kept
returns-then-place-kept c = stands_dead c.requires (rw c.in-Dead.is at c.in-Ok.ensures) (⊎_elim inl (λ h. inr h.1) c.if-place-kept.either)

pub returns-else-place-kept : goal.returns-else-place-kept
returns-else-place-kept c = stands_lost c.requires (rw c.in-Dead.is at c.in-Ok.ensures) (omega (arith, c.if-place-kept.false)) (omega (arith, c.if-place-kept.false))
