use Rattle.std.proofs.Common.{arith}
use Rattle.mh_link.specs.Depth.{rank}
use Rattle.mh_condy.proofs.Counting.{room-left-asked, under-all, unknown-within}
use Rattle.mh_condy.proofs.table.ConstTable.ask.Goals as goal

pub arguments-requires-clause-under : goal.arguments-requires-clause-under
arguments-requires-clause-under g c = under-all g.J.ConstRun.run c.args.asked.now.parts c.requires.places

pub arguments-requires-clause-room : goal.arguments-requires-clause-room
arguments-requires-clause-room g c =
    let some = unknown-within (rank g.J.ConstRun.run) 65 c.args.pass.now.known in
    let room = c.requires.room in
    omega (arith, some, room)

pub returns-clause-room_left : goal.returns-clause-room_left
returns-clause-room_left g c =
    room-left-asked g.J.ConstRun.run c.args.asked.now c.args.pass.now c.arguments.new.pass c.arguments.result c.arguments.ensures.asked c.requires.room

pub returns-clause-few : goal.returns-clause-few
returns-clause-few g c =
    let some = unknown-within (rank g.J.ConstRun.run) 65 c.args.pass.now.known in
    let few = c.arguments.ensures.few in
    omega (arith, some, few)
