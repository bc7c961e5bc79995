-- The digits of the bytes of the word so far are put, two a byte.
use lib.ListN.{take}
use Rattle.scope.specs.Lines.{hexes}
use Rattle.line_pieces.specs.Lines.{PutBehind}
use Rattle.line_pieces.proofs.Lines.word.Given as goal

abbrev pub invariant-loop-byte : goal.invariant-loop-byte
invariant-loop-byte l = PutBehind (hexes (take l.byte-index l.word)) l.initial.self l.self
