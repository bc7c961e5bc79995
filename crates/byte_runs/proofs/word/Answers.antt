use native.Mathlib.Omega.{arith}
use Rattle.byte_runs.proofs.Ends.{eight_bytes}
use Rattle.byte_runs.proofs.word.Goals as goal

pub returns : goal.returns
returns c = eight_bytes (omega arith) c.copy_from_slice.ensures.after c.requires (λ i. (c.type_inv.bytes i).fits) c.from_le_bytes.ensures
