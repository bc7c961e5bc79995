-- The ways are put beside their states, and zeros behind them.
use Rattle.way_writing.proofs.WaysWritten.{ways_written}
use Rattle.way_writing.proofs.write_ways.Goals as goal

pub returns : goal.returns
returns c =
    let e = c.new-table.ensures in
    ways_written c.requires (rw e at c.head-n.ensures.counts.0) (rw e at c.ways_home-ways.ensures) c.put.ensures c.fill.ensures
