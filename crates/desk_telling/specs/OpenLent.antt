-- The open field, where a key made it dead.
--   OpenLent rooms form: its room is there and sound, and its text is in the form
use Rattle.std.specs.Prelude.{ℕ, ◌*◌, ◌≤◌, ◌<◌, List, length}
use Rattle.scope.specs.Limits.{room_bytes}
use Rattle.scope.specs.Machines.Room.{Sound}
use Rattle.entry_form.specs.EntryForm.{field_limit, text_limit, form_bytes, closed_of, length_of}
use Rattle.desk_telling.specs.Pass.{open_room}

pub record OpenLent (rooms form : List ℕ) : Type 0 where
  pub inside : closed_of form < field_limit
  pub form_long : form_bytes ≤ length form
  pub rooms_long : closed_of form * room_bytes ≤ length rooms
  pub short : length_of form (closed_of form) ≤ text_limit
  pub sound : Sound (open_room rooms form)
