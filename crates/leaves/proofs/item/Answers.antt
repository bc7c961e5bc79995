-- The byte after the first tells a range from a byte.
use mathlib.Core.Path.{sym}
use native.Mathlib.Omega.{arith}
use Prim.Native.Char.{code}
use Rattle.leaves.proofs.ByteByByte.{was_byte, no_byte}
use Rattle.leaves.proofs.ClassItems.{item_high, item_range, item_lone}
use Rattle.leaves.proofs.item.Goals as goal

pub class_byte-high-requires : goal.class_byte-high-requires
class_byte-high-requires c = item_high c.class_byte-low.ensures c.byte_at.ensures c.requires.some (was_byte c.byte_at.result (code "-") (sym c.if-eq.ensures))

pub returns-then-eq : goal.returns-then-eq
returns-then-eq c =
    item_range c.class_byte-low.ensures c.byte_at.ensures c.requires.some c.class_byte-high.ensures (was_byte c.byte_at.result (code "-") (sym c.if-eq.ensures)) c.insert.ensures

pub returns-else-eq : goal.returns-else-eq
returns-else-eq c = item_lone c.class_byte-low.ensures c.byte_at.ensures c.requires.some (no_byte c.byte_at.result (code "-") (omega arith) (sym c.if-eq.ensures)) c.insert-else-eq.ensures
