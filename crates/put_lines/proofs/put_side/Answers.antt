-- The name, then two counts, by the answer.
use native.Mathlib.Omega.{arith}
use Rattle.line_pieces.proofs.Appending.{put_join}
use Rattle.put_lines.proofs.Lining.{told_ok, told_err}
use Rattle.put_lines.proofs.put_side.Goals as goal

pub returns-in-Ok : goal.returns-in-Ok
returns-in-Ok c = rw (c.in-Ok.is, told_ok) (record { put = put_join c.text.ensures c.put_counts.ensures.put; short = c.put_counts.ensures.short })

pub returns-in-Err : goal.returns-in-Err
returns-in-Err c =
    rw (c.in-Err.is, told_err) (record { put = put_join c.text.ensures c.put_counts-in-Err.ensures.put; short = omega (arith, c.put_counts-in-Err.ensures.short) })
