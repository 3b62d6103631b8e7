use Rattle.std.proofs.Common.{◌≡◌, ◌+◌, sym, length, None}
use Rattle.mh_prelink.specs.Steps.{worked}
use Rattle.mh_runtime.specs.declared.prelinking.Prelinked.{Prelinked}
use Rattle.mh_runtime.specs.Stops.{stop_after, stop_at}
use Rattle.mh_runtime.proofs.workers.WorkersJoined.{gathered-reported, next-constants, next-is, on-any, stop-same}
use Rattle.mh_runtime.proofs.prelinking.PrelinkingSharesOut.join.Goals as goal

pub join-requires-clause-other : goal.join-requires-clause-other
join-requires-clause-other g c =
    next-is g.J.Run.given c.args.self.now.linker.now c.args.self.now.constants.now (length c.args.self.now.plan.now) c.args.self.now.workers c.requires.0
    c.requires.1 c.args.state.now
    c.requires.2 (worked c.args.pass c.args.taken None) c.requires.3 c.requires.4

pub join-requires-clause-constants : goal.join-requires-clause-constants
join-requires-clause-constants g c =
    next-constants g.J.Run.given c.args.self.now.linker.now c.args.self.now.constants.now (length c.args.self.now.plan.now) c.args.self.now.workers
    c.requires.0 c.requires.1 c.args.state.now c.requires.2 (worked c.args.pass c.args.taken None) c.requires.3 c.requires.4

pub returns : goal.returns
returns g c = λ before after joined within did.
    let old = c.args.state.now in
    let new : Prelinked _ = record { pass = c.join.new.pass; stop = old.stop } in
    let number = length c.args.self.now.plan.now + length after in
    gathered-reported g.J.Run.given c.args.self.now.linker.now c.args.self.now.constants.now (length c.args.self.now.plan.now) c.args.self.now.workers before
    after old joined
    (worked c.args.pass c.args.taken None) within did new c.join.result c.join.ensures.ok
    (on-any (new.stop ≡ stop_after old.stop (stop_at number None)) c.join.result (sym (stop-same old.stop number)))
