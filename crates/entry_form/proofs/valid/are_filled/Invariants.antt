-- The fields before f are filled.
use Prim.Native.Nat.{ℕ, ◌<◌}
use Rattle.entry_form.specs.ValidForm.{ClosedField}
use Rattle.entry_form.proofs.valid.are_filled.Given as goal

abbrev pub invariant-loop-f : goal.invariant-loop-f
invariant-loop-f l = (g : ℕ) → g < l.f → ClosedField l.rooms l.form g
