-- Both lines and the report are within their buffers.
use native.Mathlib.Omega.{arith}
use Rattle.alike.proofs.InputLines.{lines_short, reports_fit}
use Rattle.alike.proofs.main.Goals as goal

pub slice_bounds-left-end : goal.slice_bounds-left-end
slice_bounds-left-end c = omega (arith, lines_short c.take_lines-reading.ensures.lines)

pub slice_bounds-right-end : goal.slice_bounds-right-end
slice_bounds-right-end c = omega (arith, lines_short c.take_lines-reading.ensures.lines)

pub slice_bounds-out-end : goal.slice_bounds-out-end
slice_bounds-out-end c = omega (arith, reports_fit c.report-n.ensures.reports)
