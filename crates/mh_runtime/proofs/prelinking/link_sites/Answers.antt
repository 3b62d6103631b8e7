use denote.Param.Send.{sendable}
use Rattle.std.proofs.Common.{length}
use Rattle.std.proofs.Crossing.{crosses}
use Rattle.mh_runtime.proofs.lanes.Crossing.{constants-sync, linker-sync, pass-send, plan-sync}
use Rattle.mh_runtime.proofs.workers.WorkersJoined.{prelinked-of}
use Rattle.mh_runtime.proofs.prelinking.link_sites.Goals as goal

pub share_out-requires-send-T-Pass : goal.share_out-requires-send-T-Pass
share_out-requires-send-T-Pass g c κs within =
    let s = c.type_bounds.send-J in let y = c.type_bounds.sync-J in search (pass-send, crosses, sendable) depth 20

pub share_out-requires-sync-T : goal.share_out-requires-sync-T
share_out-requires-sync-T g c κs within =
    let s = c.type_bounds.send-J in let y = c.type_bounds.sync-J in let h = c.type_bounds.sync-G in
    search (constants-sync, linker-sync, plan-sync, crosses, sendable) depth 40

pub returns : goal.returns
returns g c =
    let r = c.in_ok-share_out.ensures in
    prelinked-of g.J.Run.given c.args.prelinking.now.linker.now c.args.prelinking.now.constants.now
    (length c.args.prelinking.now.plan.now) c.args.prelinking.now.workers r.0 r.1
    c.share_out.new.state r.2 r.3 c.requires.workers.1 r.4
