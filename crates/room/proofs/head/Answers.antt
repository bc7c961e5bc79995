-- Bytes fit.
use native.Mathlib.Omega.{arith}
use Rattle.room.proofs.head.Goals as goal

pub overflow_cast-result : goal.overflow_cast-result
overflow_cast-result c = omega (arith, c.type_inv.room 0)

pub overflow_cast-result-2 : goal.overflow_cast-result-2
overflow_cast-result-2 c = omega (arith, c.type_inv.room 1)
