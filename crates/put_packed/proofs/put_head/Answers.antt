-- The three fields are the first that a form has.
use Rattle.put_packed.proofs.RoomParts.{FormFits, number_ready, states_ready, classes_ready, head_out}
use Rattle.put_packed.proofs.put_head.Goals as goal
use Rattle.put_packed.proofs.put_head.Goals.{After-head-machine}

fits : (c : After-head-machine) → FormFits c.args.room.now c.args.bits.now.out.now
fits c = record { sound = c.head-machine.ensures.sound; room = c.requires.0 }

pub put-requires : goal.put-requires
put-requires c = number_ready c.args.bits.now (fits (goal.at.put-requires c).After-head-machine) c.requires.1 c.head-machine.ensures.counts

pub put-requires-2 : goal.put-requires-2
put-requires-2 c = states_ready c.args.bits.now (fits (goal.at.put-requires-2 c).After-head-machine) c.requires.1 c.head-machine.ensures.counts c.put.ensures

pub put-requires-3 : goal.put-requires-3
put-requires-3 c = classes_ready c.args.bits.now (fits (goal.at.put-requires-3 c).After-head-machine) c.requires.1 c.head-machine.ensures.counts c.put.ensures c.put-2.ensures

pub returns : goal.returns
returns c = head_out c.args.bits.now (fits (goal.at.returns c).After-head-machine) c.requires.1 c.head-machine.ensures.counts c.put.ensures c.put-2.ensures c.put-3.ensures
