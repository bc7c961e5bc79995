-- Both sides, and behind them the comparison if both are compiled.
use mathlib.Core.Logic.{inl, inr}
use mathlib.Core.Path.{sym}
use Rattle.line_pieces.proofs.Appending.{put_as, put_join}
use Rattle.put_lines.specs.Printing.{outcome}
use Rattle.answers.specs.Numbers.{compared_number, compared_rounds}
use Rattle.put_lines.proofs.Lining.{printed_ok, printed_err}
use Rattle.put_lines.proofs.put_all.Goals as goal
use Rattle.put_lines.proofs.put_all.Goals.{else-is_ok-via-then-is_ok+else-is_ok-2, else-is_ok-via-else-is_ok}

pub returns-then-is_ok-2-clause-put : goal.returns-then-is_ok-2-clause-put
returns-then-is_ok-2-clause-put c =
    let a = c.args in
    put_as (sym (printed_ok a.left a.right (outcome (compared_number a.compared) (compared_rounds a.compared) a.word.now) (cc) (cc)))
    (put_join (put_join c.put_side.ensures.put c.put_side-2.ensures.put) c.put_outcome.ensures.put)

pub returns-else-is_ok-clause-put : goal.returns-else-is_ok-clause-put
returns-else-is_ok-clause-put c =
    let a = c.args in
    put_as (sym (printed_err a.left a.right (outcome (compared_number a.compared) (compared_rounds a.compared) a.word.now)
    (elim c.else-is_ok.branch [
      | else-is_ok-via-then-is_ok+else-is_ok-2 w ↦ inr (cc, cc)
      | else-is_ok-via-else-is_ok w ↦ inl (cc)
    ])))
    (put_join c.put_side.ensures.put c.put_side-2.ensures.put)
