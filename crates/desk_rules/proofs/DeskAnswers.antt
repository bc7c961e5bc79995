-- A number tells an answer: each is read back from it, so a contract on numbers determines what is answered.
--   opened_told, pressed_told: two answers with one number are the same
use Prim.Native.Nat.{ℕ}
use mathlib.Core.Path.{◌≡◌, refl, sym, ◌∙◌}
use mathlib.Core.Bool.{cond}
use lib.Dec.{eqb}
use Rattle.std.specs.Prelude.{Result, Ok, Err}
use Rattle.scope.specs.Answers.{ROOM, FORM}
use Rattle.desk_rules.specs.declared.OpenRefusal.{OpenRefusal}
use Rattle.desk_rules.specs.declared.PressRefusal.{PressRefusal}
use Rattle.desk_rules.specs.DeskAnswers.{DEAD_BYTE, UNFINISHED_KEY, LENGTH, CLOSED, FIELDS, opened_number, pressed_number}

abbrev opened_of : ℕ → Result (Unit {0}) OpenRefusal
opened_of n = cond (eqb n FIELDS) (Err OpenRefusal.Fields) (cond (eqb n ROOM) (Err OpenRefusal.Room) (cond (eqb n FORM) (Err OpenRefusal.Form) (Ok tt)))

opened_back : (r : Result (Unit {0}) OpenRefusal) → opened_of (opened_number r) ≡ r
opened_back (Ok x) = refl
opened_back (Err OpenRefusal.Fields) = refl
opened_back (Err OpenRefusal.Room) = refl
opened_back (Err OpenRefusal.Form) = refl

pub opened_told : (r s : Result (Unit {0}) OpenRefusal) → opened_number r ≡ opened_number s → r ≡ s
opened_told r s e = sym (opened_back r) ∙ rw e (opened_back s)

abbrev pressed_of : ℕ → Result (Unit {0}) PressRefusal
pressed_of n =
    cond (eqb n ROOM) (Err PressRefusal.Room) (cond (eqb n FORM) (Err PressRefusal.Form) (cond (eqb n DEAD_BYTE) (Err PressRefusal.DeadByte)
    (cond (eqb n UNFINISHED_KEY) (Err PressRefusal.Unfinished) (cond (eqb n LENGTH) (Err PressRefusal.Length) (cond (eqb n CLOSED) (Err PressRefusal.Closed) (Ok tt))))))

pressed_back : (r : Result (Unit {0}) PressRefusal) → pressed_of (pressed_number r) ≡ r
pressed_back (Ok x) = refl
pressed_back (Err PressRefusal.Room) = refl
pressed_back (Err PressRefusal.Form) = refl
pressed_back (Err PressRefusal.DeadByte) = refl
pressed_back (Err PressRefusal.Unfinished) = refl
pressed_back (Err PressRefusal.Length) = refl
pressed_back (Err PressRefusal.Closed) = refl

pub pressed_told : (r s : Result (Unit {0}) PressRefusal) → pressed_number r ≡ pressed_number s → r ≡ s
pressed_told r s e = sym (pressed_back r) ∙ rw e (pressed_back s)
