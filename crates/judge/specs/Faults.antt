-- What is judged of the places that were noted in a legal text, in the order of judgement.
--   Finds m r: r is what the places m are judged
--   Faults x r: so it is for whatever notes the record x keeps
use Rattle.std.specs.Prelude.{ℕ, ◌≤◌, length, Result, Ok, Err}
use Rattle.scope.specs.Limits.{position_limit}
use Rattle.scope.specs.Text.Judge.{Beyond}
use Rattle.modes.specs.Notes.{Sheet, Notes}
use Rattle.judge_state.specs.Reading.{NotesKept}
use Rattle.judge_state.specs.declared.Reading.{Reading}
use Rattle.answers.specs.declared.Fault.{Fault}

pub data Finds (m : Sheet) : Result (Unit {0}) Fault → Type 0 where
  nothing : length m.falls ≤ 0 → length m.opens ≤ 0 → length m.firsts ≤ position_limit → Finds m (Ok tt)
  falling : {i : ℕ} → Beyond m.falls 0 i → Finds m (Err (Fault.Range i))
  deep : {i : ℕ} → length m.falls ≤ 0 → Beyond m.opens 0 i → Finds m (Err (Fault.Depth i))
  many : {i : ℕ} → length m.falls ≤ 0 → length m.opens ≤ 0 → Beyond m.firsts position_limit i → Finds m (Err (Fault.Positions i))

abbrev pub Faults : Reading → Result (Unit {0}) Fault → Type 0
Faults x r = (n : Notes) → NotesKept n x → Finds n.sheet r
