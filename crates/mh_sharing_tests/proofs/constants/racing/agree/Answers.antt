use denote.Param.Send.{sendable}
use Rattle.std.proofs.Crossing.{crosses}
use Rattle.mh_condy.proofs.Crossing.{pass_send, table_sync}
use Rattle.mh_sharing_tests.proofs.constants.racing.agree.Goals as goal

pub join_mut-a-requires-send-F : goal.join_mut-a-requires-send-F
join_mut-a-requires-send-F g c κs within =
    let s = c.type_bounds.send-J in let y = c.type_bounds.sync-J in let r = c.type_bounds.sync-R in search (pass_send, table_sync, crosses, sendable) depth 20
