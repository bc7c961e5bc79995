use Rattle.put_packed.proofs.PutBits.{fields_none, fields_ready, fields_more}
use lib.ListN.{length}
use Rattle.put_packed.proofs.bits.Bits.put_each.Goals as goal

pub loop-byte-init : goal.loop-byte-init
loop-byte-init c = fields_none c.args.width c.args.bytes.now c.args.self.now

pub put-requires : goal.put-requires
put-requires c =
    let (room, narrow, fits) = c.requires in
    (fields_ready c.loop-byte.invariant (length c.args.bytes.now) c.loop-byte-test.true room, narrow, fits c.loop-byte.byte-index c.loop-byte-test.true)

pub loop-byte-preserved : goal.loop-byte-preserved
loop-byte-preserved c = fields_more c.loop-byte.invariant c.put.ensures
