-- The machines before f are sound.
use Prim.Native.Nat.{ℕ, ◌≤◌, ◌<◌}
use Rattle.scope.specs.Machines.Room.{Sound}
use Rattle.entry_form.specs.Text.{field_room}
use Rattle.entry_form.proofs.valid.are_sound.Given as goal

abbrev pub invariant-loop-f : goal.invariant-loop-f
invariant-loop-f l = (g : ℕ) → g < l.f → l.from ≤ g → Sound (field_room l.rooms g)
