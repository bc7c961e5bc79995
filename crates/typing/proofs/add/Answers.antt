-- A field that is full is refused if keys lead to it; of another each standing with the byte is one law.
use mathlib.Core.Path.{◌≡◌}
use mathlib.Core.Logic.{⊎_elim}
use native.Mathlib.Omega.{arith}
use Rattle.std.proofs.lemmas.Grind.{common_steps}
use borrow.Author.Rules.{rules}
use Rattle.scope.specs.Answers.{FORM}
use Rattle.desk_rules.specs.DeskAnswers.{pressed_number}
use Rattle.typing.proofs.Keys.{lost, full, types_accepted, types_unfinished, types_dead, types_lost}
use Rattle.typing.proofs.add.Goals as goal

pub returns-in_err-ok_or : goal.returns-in_err-ok_or
returns-in_err-ok_or c =
    let p = c.requires in
    let z : pressed_number c.from_residual.result ≡ FORM = grind (arith, common_steps) in
    rw z (lost p.0 p.1 (λ i. search rules) (rw (c.room_at-room.ensures, c.text_at-text.ensures, c.in_err-ok_or.ensures.ok_part) at c.of_text.ensures))

pub returns-then-text-eq-TEXT : goal.returns-then-text-eq-TEXT
returns-then-text-eq-TEXT c =
    let p = c.requires in
    full p.0 p.1 (λ i. search rules) p.2 (rw (c.room_at-room.ensures, c.text_at-text.ensures, c.in_ok-ok_or.ensures.ok_part) at c.of_text.ensures)
    (rw c.text_at-text.ensures at c.if-text-eq-TEXT.true)

pub returns-in_err-ok_or-2 : goal.returns-in_err-ok_or-2
returns-in_err-ok_or-2 c =
    let p = c.requires in
    let z : pressed_number c.from_residual-in_err-ok_or-2.result ≡ FORM = grind (arith, common_steps) in
    rw z (types_lost p.0 p.1 (λ i. search rules) p.2 (search rules) (rw c.text_at-text.ensures at c.if-text-eq-TEXT.false)
    (rw (c.room_at-room.ensures, c.text_at-text.ensures, c.in_err-ok_or-2.ensures.ok_part) at c.of_typed.ensures))

pub returns-in-Accepted : goal.returns-in-Accepted
returns-in-Accepted c =
    let p = c.requires in
    let n = rw c.text_at-text.ensures at c.if-text-eq-TEXT.false in
    let u = rw (c.room_at-room.ensures, c.text_at-text.ensures, c.in_ok-ok_or-2.ensures.ok_part) at c.of_typed.ensures in
    ⊎_elim (λ e. types_accepted p.0 p.1 (λ i. search rules) p.2 (search rules) n c.append.ensures (rw e at u))
    (λ e. types_unfinished p.0 p.1 (λ i. search rules) p.2 (search rules) n c.append.ensures (rw e at u)) c.in-Accepted.is

pub returns-in-Dead : goal.returns-in-Dead
returns-in-Dead c =
    let p = c.requires in
    types_dead p.0 p.1 (λ i. search rules) p.2 (search rules) (rw c.text_at-text.ensures at c.if-text-eq-TEXT.false)
    (rw (c.room_at-room.ensures, c.text_at-text.ensures, c.in_ok-ok_or-2.ensures.ok_part, c.in-Dead.is) at c.of_typed.ensures)
