use mathlib.Core.Path.{refl}
use Rattle.alike.specs.Input.{read}
use Rattle.alike.proofs.InputLines.{lines_more}
use Rattle.alike.proofs.take_lines.Goals as goal

pub loop-reads-init : goal.loop-reads-init
loop-reads-init c = (record { taken = read (c.begin.ensures _ _); left_long = c.requires.0; right_long = c.requires.1 }, refl)

pub returns-then-got-eq0-clause-lines : goal.returns-then-got-eq0-clause-lines
returns-then-got-eq0-clause-lines c = lines_more c.loop-reads.invariant.0 c.take_block-taking.ensures

pub loop-reads-preserved : goal.loop-reads-preserved
loop-reads-preserved c = (lines_more c.loop-reads.invariant.0 c.take_block-taking.ensures, refl)
