-- The desk's answers as numbers, beside those of the library. 02: "Refusals: on opening, 21 FIELDS ..; on a key, .. 13 CLOSED ..; 12 LENGTH ..; 10 DEAD BYTE ..; 11 UNFINISHED".
--   FIELDS, DEAD_BYTE, UNFINISHED_KEY, LENGTH, CLOSED: the refusals that the desk adds; DONE, ROOM and FORM are the library's
--   opened_number, pressed_number: of what opening answers, and of what a key does
--   open_refusal_number, press_refusal_number: of their refusals
use Rattle.std.specs.Prelude.{ℕ, Result}
use Rattle.scope.specs.Answers.{DONE, ROOM, FORM}
use Rattle.answers.specs.Numbers.{result_number}
use Rattle.desk_rules.specs.declared.OpenRefusal.{OpenRefusal}
use Rattle.desk_rules.specs.declared.PressRefusal.{PressRefusal}

abbrev pub DEAD_BYTE : ℕ
DEAD_BYTE = 10

abbrev pub UNFINISHED_KEY : ℕ
UNFINISHED_KEY = 11

abbrev pub LENGTH : ℕ
LENGTH = 12

abbrev pub CLOSED : ℕ
CLOSED = 13

abbrev pub FIELDS : ℕ
FIELDS = 21

abbrev pub open_refusal_number : OpenRefusal → ℕ
open_refusal_number OpenRefusal.Fields = FIELDS
open_refusal_number OpenRefusal.Room = ROOM
open_refusal_number OpenRefusal.Form = FORM

abbrev pub opened_number : Result (Unit {0}) OpenRefusal → ℕ
opened_number = result_number (λ _. DONE) open_refusal_number

abbrev pub press_refusal_number : PressRefusal → ℕ
press_refusal_number PressRefusal.Room = ROOM
press_refusal_number PressRefusal.Form = FORM
press_refusal_number PressRefusal.DeadByte = DEAD_BYTE
press_refusal_number PressRefusal.Unfinished = UNFINISHED_KEY
press_refusal_number PressRefusal.Length = LENGTH
press_refusal_number PressRefusal.Closed = CLOSED

abbrev pub pressed_number : Result (Unit {0}) PressRefusal → ℕ
pressed_number = result_number (λ _. DONE) press_refusal_number
