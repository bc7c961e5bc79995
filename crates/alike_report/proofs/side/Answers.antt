-- The head of the room, or why it is left as it was.
use Rattle.std.proofs.lemmas.Result.{err_from_is_err_and}
use Rattle.alike_report.proofs.TakenApart.{compiling_done, compiling_refused}
use Rattle.alike_report.proofs.side.Goals as goal

pub returns-in_err-compile : goal.returns-in_err-compile
returns-in_err-compile c =
    let p = err_from_is_err_and c.from_residual.result c.from_residual.ensures.1 in
    rw p.1 (compiling_refused p.0 c.in_err-compile.field-0.0 p.2 c.requires c.in_err-compile.ensures)

pub returns : goal.returns
returns c = λ empty. compiling_done c.requires c.in_ok-compile.ensures c.head.ensures
