-- A field that keys lead to loses its last byte.
use mathlib.Core.Path.{◌≡◌}
use native.Mathlib.Omega.{arith}
use Rattle.std.proofs.lemmas.Grind.{common_steps}
use borrow.Author.Rules.{rules}
use Rattle.scope.specs.Answers.{FORM}
use Rattle.desk_rules.specs.DeskAnswers.{pressed_number}
use Rattle.typing.proofs.Keys.{lost, takes_back}
use Rattle.typing.proofs.take_back.Goals as goal

pub returns-in_err-ok_or : goal.returns-in_err-ok_or
returns-in_err-ok_or c =
    let p = c.requires in
    let z : pressed_number c.from_residual.result ≡ FORM = grind (arith, common_steps) in
    rw z (lost p.0 p.1 (λ i. search rules) (rw (c.room_at.ensures, c.text_at.ensures, c.in_err-ok_or.ensures.ok_part) at c.of_text.ensures))

pub returns : goal.returns
returns c = let p = c.requires in
    takes_back p.0 p.1 (λ i. search rules) (rw (c.room_at.ensures, c.text_at.ensures, c.in_ok-ok_or.ensures.ok_part) at c.of_text.ensures) c.take_last.ensures
