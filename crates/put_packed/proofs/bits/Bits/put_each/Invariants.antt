-- A field is put for each of the bytes so far.
use Rattle.put_packed.specs.PutBits.{PutsFields}
use Rattle.put_packed.proofs.bits.Bits.put_each.Given as goal

abbrev pub invariant-loop-byte : goal.invariant-loop-byte
invariant-loop-byte l = PutsFields l.width l.bytes l.byte-index l.initial.self l.self
