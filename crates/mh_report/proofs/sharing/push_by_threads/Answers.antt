use denote.Param.Send.{sendable}
use Rattle.std.proofs.Crossing.{crosses}
use Rattle.mh_report.proofs.SharedCrossing.{lines-send, printing-sync}
use Rattle.mh_report.proofs.sharing.push_by_threads.Goals as goal

pub fork_join-requires-send-T-Lane : goal.fork_join-requires-send-T-Lane
fork_join-requires-send-T-Lane g c κs within = search (lines-send, crosses, sendable) depth 20

pub fork_join-requires-sync-T : goal.fork_join-requires-sync-T
fork_join-requires-sync-T g c κs within = search (printing-sync, crosses, sendable) depth 20
