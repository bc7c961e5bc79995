use Rattle.way_writing.proofs.Sinking.{level_home}
use Rattle.way_writing.proofs.ways_home.Goals as goal

pub loop-list-smaller : goal.loop-list-smaller
loop-list-smaller c = c.sweep.ensures.less c.loop-list-test.true

pub loop-list-preserved : goal.loop-list-preserved
loop-list-preserved c = c.sweep.ensures.sinking

pub returns : goal.returns
returns c = let s = c.sweep.ensures in level_home c.first_ways-ways.ensures.sound s.sinking (s.level c.loop-list-test.false)
