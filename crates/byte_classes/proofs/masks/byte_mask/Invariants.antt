-- The invariant: the mask has those of the first p positions that hold the byte.
use mathlib.Core.Path.{◌≡◌}
use Rattle.sets.specs.Value.{set_value}
use Rattle.byte_classes.specs.Masks.{mask_of}
use Rattle.byte_classes.proofs.masks.byte_mask.Given as goal

abbrev pub invariant-loop-p : goal.invariant-loop-p
invariant-loop-p l = set_value l.mask.words ≡ mask_of l.sets.bytes.now l.b l.p
