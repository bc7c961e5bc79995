-- Three pieces.
use native.Mathlib.Omega.{arith}
use lib.ListN.{length-append}
use Rattle.line_pieces.proofs.Appending.{put_join}
use Rattle.line_pieces.proofs.Numerals.{number_short}
use Rattle.put_lines.proofs.put_same.Goals as goal

pub returns-clause-put : goal.returns-clause-put
returns-clause-put c = put_join c.text.ensures (put_join c.decimal.ensures c.byte.ensures)

pub returns-clause-short : goal.returns-clause-short
returns-clause-short c = simp length-append (omega (arith, number_short c.args.rounds (omega arith)))
