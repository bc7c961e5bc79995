-- `none` decides whether no byte so far is a key.
use Rattle.buffers.specs.Stored.{Decides}
use Rattle.entry_form.specs.ValidForm.{NoKeys}
use Rattle.entry_form.proofs.valid.has_no_keys.Given as goal

abbrev pub invariant-loop-x : goal.invariant-loop-x
invariant-loop-x l = Decides l.none (NoKeys l.text l.x-index)
