-- Each standing of the field is one law.
use mathlib.Core.Path.{◌≡◌}
use mathlib.Core.Logic.{⊎_elim}
use native.Mathlib.Omega.{arith}
use Rattle.std.proofs.lemmas.Grind.{common_steps}
use borrow.Author.Rules.{rules}
use Rattle.scope.specs.Answers.{FORM}
use Rattle.desk_rules.specs.DeskAnswers.{pressed_number}
use Rattle.typing.proofs.Keys.{lost, closes, closes_unfinished, closes_dead}
use Rattle.typing.proofs.close.Goals as goal

pub returns-in_err-ok_or : goal.returns-in_err-ok_or
returns-in_err-ok_or c =
    let p = c.requires in
    let z : pressed_number c.from_residual.result ≡ FORM = grind (arith, common_steps) in
    rw z (lost p.0 p.1 (λ i. search rules) (rw (c.room_at.ensures, c.text_at.ensures, c.in_err-ok_or.ensures.ok_part) at c.of_text.ensures))

pub returns-in-Accepted : goal.returns-in-Accepted
returns-in-Accepted c = let p = c.requires in
    closes p.0 p.1 (λ i. search rules) (rw (c.room_at.ensures, c.text_at.ensures, c.in_ok-ok_or.ensures.ok_part, c.in-Accepted.is) at c.of_text.ensures)

pub returns-in-Unfinished : goal.returns-in-Unfinished
returns-in-Unfinished c =
    let p = c.requires in
    let u = rw (c.room_at.ensures, c.text_at.ensures, c.in_ok-ok_or.ensures.ok_part) at c.of_text.ensures in
    ⊎_elim (λ e. closes_unfinished p.0 p.1 (λ i. search rules) (rw e at u)) (λ e. closes_dead p.0 p.1 (λ i. search rules) (rw e at u)) c.in-Unfinished.is
