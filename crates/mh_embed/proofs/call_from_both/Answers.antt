use denote.Param.Send.{sendable}
use Rattle.std.proofs.Crossing.{crosses}
use Rattle.mh_runtime.proofs.lanes.Crossing.{linker-sync, pass-send}
use Rattle.mh_embed.proofs.call_from_both.Goals as goal

pub join_mut-first-requires-send-F : goal.join_mut-first-requires-send-F
join_mut-first-requires-send-F g c κs within =
    let r = c.type_bounds.sync-R in
    let a = c.type_bounds.send-J in
    let b = c.type_bounds.sync-J in
    search (pass-send, linker-sync, crosses, sendable) depth 20
