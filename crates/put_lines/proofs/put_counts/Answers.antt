-- Five pieces, one behind the other.
use Rattle.line_pieces.proofs.Appending.{put_join}
use native.Mathlib.Omega.{arith}
use Rattle.put_lines.proofs.Lining.{counted_short}
use Rattle.put_lines.proofs.put_counts.Goals as goal

pub returns-clause-put : goal.returns-clause-put
returns-clause-put c = put_join c.text.ensures (put_join c.decimal.ensures (put_join c.text-2.ensures (put_join c.decimal-2.ensures c.byte.ensures)))

pub returns-clause-short : goal.returns-clause-short
returns-clause-short c = counted_short c.args.before.now c.args.first c.args.between.now c.args.second (omega arith) (omega arith)
