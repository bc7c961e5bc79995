-- The first byte tells the dot, a class, an escape and a literal apart.
use native.Mathlib.Omega.{arith}
use Rattle.leaves.proofs.ByteByByte.{byte_here}
use Rattle.leaves.proofs.Singles.{single_dot, single_items, single_class, single_escape, single_byte, single_literal}
use Rattle.leaves.proofs.single.Goals as goal

pub returns-in-46 : goal.returns-in-46
returns-in-46 c = let p = c.requires.some in single_dot p (byte_here _ _ p.inside) c.in-46.is c.insert_dot.ensures

pub items-requires-clause-some : goal.items-requires-clause-some
items-requires-clause-some c = let p = c.requires.some in single_items p (byte_here _ _ p.inside) c.in-91.is

pub returns-in-91 : goal.returns-in-91
returns-in-91 c = let p = c.requires.some in single_class p (byte_here _ _ p.inside) c.in-91.is c.items.ensures

pub escape-e-requires : goal.escape-e-requires
escape-e-requires c = let p = c.requires.some in single_escape p (byte_here _ _ p.inside) c.in-92.is

pub returns-in-92 : goal.returns-in-92
returns-in-92 c = let p = c.requires.some in single_byte p (byte_here _ _ p.inside) c.escape-e.ensures c.insert.ensures

pub returns-in_default : goal.returns-in_default
returns-in_default c =
    let p = c.requires.some in
    single_literal p (byte_here _ _ p.inside) (λ e. omega arith) (λ e. omega arith) (λ e. omega arith) c.insert-in_default.ensures
