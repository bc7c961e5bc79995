-- A line with two numbers, and three pieces.
use native.Mathlib.Omega.{arith}
use lib.ListN.{length-append}
use Rattle.line_pieces.proofs.Appending.{put_join}
use Rattle.line_pieces.proofs.Numerals.{shown_short}
use Rattle.put_lines.proofs.put_separated.Goals as goal

pub returns-clause-put : goal.returns-clause-put
returns-clause-put c = put_join c.put_counts.ensures.put (put_join c.text.ensures (put_join c.word.ensures c.byte.ensures))

pub returns-clause-short : goal.returns-clause-short
returns-clause-short c = simp length-append (omega (arith, simp length-append at c.put_counts.ensures.short, shown_short c.args.word.now))
