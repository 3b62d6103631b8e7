use Rattle.std.proofs.Common.{suc, arith}
use Rattle.mh_link.specs.Depth.{rank}
use Rattle.mh_condy.proofs.Counting.{room-left-ok, unknown-within}
use Rattle.mh_condy.proofs.table.ConstTable.resolve_const.Goals as goal

pub resolve-requires-clause-room : goal.resolve-requires-clause-room
resolve-requires-clause-room g c =
    let some = unknown-within (rank g.J.ConstRun.run) (suc (rank g.J.ConstRun.run c.args.c)) c.args.pass.now.known in
    let room = c.requires.room in
    omega (arith, some, room)

pub returns-clause-room_left : goal.returns-clause-room_left
returns-clause-room_left g c =
    room-left-ok g.J.ConstRun.run c.args.c c.args.pass.now c.resolve.new.pass c.resolve.result c.resolve.ensures.resolves.goes c.requires.room
