-- The first byte tells a class, an escape and a byte alone apart.
use native.Mathlib.Omega.{arith}
use Rattle.scope.specs.Text.Grammar.{an_escape}
use Rattle.leaves.proofs.ByteByByte.{byte_here}
use Rattle.leaves.proofs.Singles.{single_items, single_escape, end_one, end_class, end_byte}
use Rattle.leaves.proofs.single_end.Goals as goal

pub class_end-requires : goal.class_end-requires
class_end-requires c = single_items c.requires (byte_here _ _ c.requires.inside) c.in-91.is

pub returns-in-91 : goal.returns-in-91
returns-in-91 c = end_class c.requires (byte_here _ _ c.requires.inside) c.in-91.is c.class_end.ensures

pub escape-requires : goal.escape-requires
escape-requires c = single_escape c.requires (byte_here _ _ c.requires.inside) c.in-92.is

pub returns-in-92 : goal.returns-in-92
returns-in-92 c = end_one (an_escape c.escape.ensures)

pub returns-in_default : goal.returns-in_default
returns-in_default c = end_byte c.requires (byte_here _ _ c.requires.inside) (λ e. omega arith) (λ e. omega arith)
