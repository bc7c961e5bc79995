-- Answers as numbers and values. 01: "Where an answer is an enum, a definition gives this paper's number and values for each of its cases."
--   result_number v r: what v says of a value, what r says of a refusal
--   compiled_number, compiled_place: of what compiling answers; and so for the other five
--   refusal_number, matched_value_number ..: of their values and refusals
--   of_fault, of_excess: the refusal that a fault of a text is, and that too many classes or states are
-- A value that an answer does not have is 0.
use Rattle.std.specs.Prelude.{ℕ, Result, Ok, Err}
use Rattle.scope.specs.Answers.{DONE, ROOM, LONG, SYNTAX, RANGE, DEPTH, POSITIONS, CLASSES, STATES, FORM, ACCEPTED, DEAD, UNFINISHED, SAME, SEPARATED}
use Rattle.answers.specs.declared.Refusal.{Refusal}
use Rattle.answers.specs.declared.Fault.{Fault}
use Rattle.answers.specs.declared.Excess.{Excess}
use Rattle.answers.specs.declared.CompileRefusal.{CompileRefusal}
use Rattle.answers.specs.declared.Matched.{Matched}
use Rattle.answers.specs.declared.Compared.{Compared}

abbrev pub result_number : {T E : Type 0} → (T → ℕ) → (E → ℕ) → Result T E → ℕ
result_number v r (Ok x) = v x
result_number v r (Err e) = r e

-- ---- operations on rooms

abbrev pub refusal_number : Refusal → ℕ
refusal_number Refusal.Room = ROOM
refusal_number Refusal.Form = FORM

-- ---- compiling

abbrev pub of_fault : Fault → CompileRefusal
of_fault (Fault.Syntax i) = CompileRefusal.Syntax i
of_fault (Fault.Range i) = CompileRefusal.Range i
of_fault (Fault.Depth i) = CompileRefusal.Depth i
of_fault (Fault.Positions i) = CompileRefusal.Positions i

abbrev pub of_excess : Excess → CompileRefusal
of_excess Excess.Classes = CompileRefusal.Classes
of_excess Excess.States = CompileRefusal.States

abbrev pub compile_refusal_number : CompileRefusal → ℕ
compile_refusal_number CompileRefusal.Room = ROOM
compile_refusal_number CompileRefusal.Long = LONG
compile_refusal_number (CompileRefusal.Syntax i) = SYNTAX
compile_refusal_number (CompileRefusal.Range i) = RANGE
compile_refusal_number (CompileRefusal.Depth i) = DEPTH
compile_refusal_number (CompileRefusal.Positions i) = POSITIONS
compile_refusal_number CompileRefusal.Classes = CLASSES
compile_refusal_number CompileRefusal.States = STATES

abbrev pub compile_refusal_place : CompileRefusal → ℕ
compile_refusal_place CompileRefusal.Room = 0
compile_refusal_place CompileRefusal.Long = 0
compile_refusal_place (CompileRefusal.Syntax i) = i
compile_refusal_place (CompileRefusal.Range i) = i
compile_refusal_place (CompileRefusal.Depth i) = i
compile_refusal_place (CompileRefusal.Positions i) = i
compile_refusal_place CompileRefusal.Classes = 0
compile_refusal_place CompileRefusal.States = 0

abbrev pub compiled_number : Result (Unit {0}) CompileRefusal → ℕ
compiled_number = result_number (λ _. DONE) compile_refusal_number

abbrev pub compiled_place : Result (Unit {0}) CompileRefusal → ℕ
compiled_place = result_number (λ _. 0) compile_refusal_place

-- ---- minimising

abbrev pub minimised_number : Result (Unit {0}) Refusal → ℕ
minimised_number = result_number (λ _. DONE) refusal_number

-- ---- matching

abbrev pub matched_value_number : Matched → ℕ
matched_value_number Matched.Accepted = ACCEPTED
matched_value_number (Matched.Dead i) = DEAD
matched_value_number Matched.Unfinished = UNFINISHED

abbrev pub matched_value_place : Matched → ℕ
matched_value_place Matched.Accepted = 0
matched_value_place (Matched.Dead i) = i
matched_value_place Matched.Unfinished = 0

abbrev pub matched_number : Result Matched Refusal → ℕ
matched_number = result_number matched_value_number refusal_number

abbrev pub matched_place : Result Matched Refusal → ℕ
matched_place = result_number matched_value_place (λ _. 0)

-- ---- comparing

abbrev pub compared_value_number : Compared → ℕ
compared_value_number (Compared.Same r) = SAME
compared_value_number (Compared.Separated n r) = SEPARATED

abbrev pub compared_value_length : Compared → ℕ
compared_value_length (Compared.Same r) = 0
compared_value_length (Compared.Separated n r) = n

abbrev pub compared_value_rounds : Compared → ℕ
compared_value_rounds (Compared.Same r) = r
compared_value_rounds (Compared.Separated n r) = r

abbrev pub compared_number : Result Compared Refusal → ℕ
compared_number = result_number compared_value_number refusal_number

abbrev pub compared_length : Result Compared Refusal → ℕ
compared_length = result_number compared_value_length (λ _. 0)

abbrev pub compared_rounds : Result Compared Refusal → ℕ
compared_rounds = result_number compared_value_rounds (λ _. 0)

-- ---- packing and unpacking

abbrev pub packed_number : Result ℕ Refusal → ℕ
packed_number = result_number (λ _. DONE) refusal_number

abbrev pub packed_length : Result ℕ Refusal → ℕ
packed_length = result_number (λ n. n) (λ _. 0)

abbrev pub unpacked_number : Result (Unit {0}) Refusal → ℕ
unpacked_number = result_number (λ _. DONE) refusal_number
