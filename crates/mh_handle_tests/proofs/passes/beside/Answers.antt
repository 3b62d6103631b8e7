use denote.Param.Send.{sendable}
use Rattle.std.proofs.Crossing.{crosses}
use Rattle.mh_handle.proofs.passes.Crossing.{form-sync, table-sync, pass-send}
use Rattle.mh_handle_tests.proofs.passes.beside.Goals as goal

pub join_mut-a-requires-send-F : goal.join_mut-a-requires-send-F
join_mut-a-requires-send-F g c κs within = let r = c.type_bounds.sync-R in search (pass-send, form-sync, table-sync, crosses, sendable) depth 20
