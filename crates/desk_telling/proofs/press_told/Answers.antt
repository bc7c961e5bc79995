-- DEAD BYTE left the form as it was, so its open field is the one that the key was for. With any other answer nothing is told.
use mathlib.Core.Path.{◌≡◌, refl}
use native.Mathlib.Omega.{arith}
use borrow.Author.Rules.{rules}
use Rattle.desk_rules.specs.DeskAnswers.{DEAD_BYTE, pressed_number}
use Rattle.desk_histories.proofs.Presses.{refused_stays}
use Rattle.desk_telling.proofs.Own.{open_lent, own_passed}
use Rattle.desk_telling.proofs.press_told.Goals as goal
use Rattle.desk_telling.proofs.press_told.Goals.{In-Err-DeadByte}

-- the answer is DEAD BYTE
dead : (c : In-Err-DeadByte) → pressed_number c.press-pressed.result ≡ DEAD_BYTE
dead c = rw (c.in-Err-DeadByte.is, rw c.in-Err-DeadByte.is at c.in-Err-DeadByte.field-0-is) refl

pub tell-requires : goal.tell-requires
tell-requires c = let z = dead (goal.at.tell-requires c).In-Err-DeadByte in
    let p = c.press-pressed.ensures in
    rw (refused_stays p (λ y. omega (arith, z))) (open_lent (rw z at p))

pub returns-in-Err-DeadByte : goal.returns-in-Err-DeadByte
returns-in-Err-DeadByte c = let z = dead (goal.at.returns-in-Err-DeadByte c).In-Err-DeadByte in
    let p = c.press-pressed.ensures in
    (p, rw z (own_passed (λ j. search rules) (rw z at p) (rw (refused_stays p (λ y. omega (arith, z))) at c.tell.ensures)))
