use Rattle.std.proofs.Common.{length, sym, subst}
use Rattle.mh_runtime.specs.declared.pass.Pass.{Pass}
use Rattle.mh_runtime.specs.Bases.{base_of}
use Rattle.mh_runtime.specs.Joining.{AreAllJoined, HasRoomFor}
use Rattle.mh_runtime.proofs.workers.BaseRuns.{run-on, stopped-on}
use Rattle.mh_runtime.proofs.running.run_pass.Goals as goal

pub run_lanes-requires-clause-room : goal.run_lanes-requires-clause-room
run_lanes-requires-clause-room g c κs within =
    subst (λ (p : Pass _). HasRoomFor (length c.args.plan.now) (base_of p)) c.requires.base c.requires.room

pub returns-clause-run : goal.returns-clause-run
returns-clause-run g c =
    run-on g.J.Run.given c.args.pass c.args.plan.now c.in_ok-joined.joined
    (subst (λ (p : Pass _). AreAllJoined g.J.Run.given p c.args.plan.now c.in_ok-joined.joined) (sym c.requires.base) c.in_ok-joined.ensures)
    c.report.result c.report.ensures.run

pub returns-clause-stop : goal.returns-clause-stop
returns-clause-stop g c =
    stopped-on g.J.Run.given c.args.pass c.args.plan.now c.in_ok-joined.joined
    (subst (λ (p : Pass _). AreAllJoined g.J.Run.given p c.args.plan.now c.in_ok-joined.joined) (sym c.requires.base) c.in_ok-joined.ensures)
    c.report.result c.report.ensures.stop
