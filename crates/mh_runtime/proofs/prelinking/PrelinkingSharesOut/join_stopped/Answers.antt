use Rattle.std.proofs.Common.{◌∙◌, ap, length, Result, Ok, Some}
use Rattle.mh_prelink.specs.Steps.{worked}
use Rattle.mh_runtime.specs.declared.prelinking.Prelinked.{Prelinked}
use Rattle.mh_runtime.specs.Stops.{stop_after, stop_at}
use Rattle.mh_runtime.proofs.workers.WorkersJoined.{gathered-reported, next-constants, next-is, next-took}
use Rattle.mh_runtime.proofs.prelinking.PrelinkingSharesOut.join_stopped.Goals as goal

pub join-requires-clause-other : goal.join-requires-clause-other
join-requires-clause-other g c =
    next-is g.J.Run.given c.args.self.now.linker.now c.args.self.now.constants.now (length c.args.self.now.plan.now) c.args.self.now.workers c.requires.0
    c.requires.1 c.args.state.now
    c.requires.2 (worked c.args.pass c.args.taken (Some c.args.stop)) c.requires.3 c.requires.4

pub join-requires-clause-constants : goal.join-requires-clause-constants
join-requires-clause-constants g c =
    next-constants g.J.Run.given c.args.self.now.linker.now c.args.self.now.constants.now (length c.args.self.now.plan.now) c.args.self.now.workers
    c.requires.0 c.requires.1 c.args.state.now c.requires.2 (worked c.args.pass c.args.taken (Some c.args.stop)) c.requires.3 c.requires.4

pub returns : goal.returns
returns g c = λ before after joined within did.
    let old = c.args.state.now in
    let new : Prelinked _ = record { pass = c.join.new.pass; stop = c.first_stop-state.result } in
    let w = worked c.args.pass c.args.taken (Some c.args.stop) in
    let took = next-took g.J.Run.given c.args.self.now.linker.now c.args.self.now.constants.now (length c.args.self.now.plan.now) c.args.self.now.workers
    before after old joined w within
    did in
    let done : Result (Unit {0}) (Unit {0}) = Ok tt in
    gathered-reported g.J.Run.given c.args.self.now.linker.now c.args.self.now.constants.now (length c.args.self.now.plan.now) c.args.self.now.workers before
    after old joined w within did
    new done c.in_ok-join.ensures.ok
    (c.first_stop-state.ensures ∙ ap (stop_after old.stop)
    (c.stop_of.ensures ∙ ap (λ n. stop_at n (Some c.args.stop)) (c.thread-thread.ensures ∙ took.thread_is)))
