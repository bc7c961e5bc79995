-- Both sides are compiled and compared, and then put.
use mathlib.Core.Path.{refl, sym}
use native.Mathlib.Omega.{arith}
use borrow.Author.Rules.{rules}
use lib.Seq.{length-take-le}
use Rattle.compare.proofs.Results.{compares_fits}
use Rattle.alike_report.specs.Report.{reports, puts}
use Rattle.alike_report.proofs.TakenApart.{comparing_as}
use Rattle.alike_report.proofs.report.Goals as goal

pub slice_bounds-word-end : goal.slice_bounds-word-end
slice_bounds-word-end c = omega (arith, compares_fits c.compare-compared.ensures, c.value-count.ensures)

pub slice_bounds-print_lines-end : goal.slice_bounds-print_lines-end
slice_bounds-print_lines-end c =
    sym (length-take-le _ _ (omega (arith, compares_fits c.compare-compared.ensures, c.value-count.ensures)))

pub returns-clause-reports : goal.returns-clause-reports
returns-clause-reports c =
    reports (c.side-left_side.ensures (refl, refl)) (c.side-right_side.ensures (refl, refl))
    (puts (comparing_as c.compare-compared.ensures c.value-count.ensures (search rules)) c.print_lines.ensures.appended)
