-- The byte after the backslash tells the two escapes apart.
use native.Mathlib.Omega.{arith}
use Rattle.leaves.proofs.ByteByByte.{byte_here, escape_two, coded_in, coded_digits, escape_coded, escape_plain, some_digit, of_digit}
use Rattle.leaves.proofs.text.escape.Goals as goal

pub bounds-text-at : goal.bounds-text-at
bounds-text-at c = escape_two c.requires.reads

pub bounds-text-at-in-120 : goal.bounds-text-at-in-120
bounds-text-at-in-120 c = omega (arith, coded_in c.requires.reads (byte_here _ _ (escape_two c.requires.reads)) c.in-120.is)

pub bounds-text-at-in-120-2 : goal.bounds-text-at-in-120-2
bounds-text-at-in-120-2 c = coded_in c.requires.reads (byte_here _ _ (escape_two c.requires.reads)) c.in-120.is

pub unwrap-requires : goal.unwrap-requires
unwrap-requires c = some_digit _ c.hex_value.ensures (coded_digits c.requires.reads (byte_here _ _ (escape_two c.requires.reads)) c.in-120.is).0

pub unwrap-requires-in-120 : goal.unwrap-requires-in-120
unwrap-requires-in-120 c = some_digit _ c.hex_value-in-120.ensures (coded_digits c.requires.reads (byte_here _ _ (escape_two c.requires.reads)) c.in-120.is).1

pub returns-in-120 : goal.returns-in-120
returns-in-120 c =
    escape_coded c.requires.reads (byte_here _ _ (escape_two c.requires.reads)) c.in-120.is (of_digit _ c.hex_value.ensures c.unwrap.ensures) (of_digit _ c.hex_value-in-120.ensures c.unwrap-in-120.ensures)

pub returns-in_default : goal.returns-in_default
returns-in_default c = escape_plain c.requires.reads (byte_here _ _ (escape_two c.requires.reads)) (λ e. omega arith)
