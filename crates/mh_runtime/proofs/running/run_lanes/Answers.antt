use denote.Param.Send.{sendable}
use Rattle.std.proofs.Crossing.{crosses}
use Rattle.mh_runtime.proofs.lanes.Crossing.{lane-send, linker-sync, plan-sync}
use Rattle.mh_runtime.proofs.running.run_lanes.Goals as goal

pub fork_join-requires-send-T-Lane : goal.fork_join-requires-send-T-Lane
fork_join-requires-send-T-Lane g c κs within =
    let s = c.type_bounds.send-J in let y = c.type_bounds.sync-J in search (lane-send, crosses, sendable) depth 20

pub fork_join-requires-sync-T : goal.fork_join-requires-sync-T
fork_join-requires-sync-T g c κs within =
    let s = c.type_bounds.send-J in let y = c.type_bounds.sync-J in let h = c.type_bounds.sync-G in let b = c.type_bounds.sync-B in
    search (linker-sync, plan-sync, crosses, sendable) depth 40
