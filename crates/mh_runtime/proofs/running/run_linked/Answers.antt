use Rattle.mh_runtime.proofs.workers.BaseRuns.{base-of, base-room, full-reported, linked-reported, named-of, no-slot-reported, stop-reported}
use Rattle.mh_runtime.proofs.running.run_linked.Goals as goal

pub run_pass-requires-clause-pass : goal.run_pass-requires-clause-pass
run_pass-requires-clause-pass g c κs within =
    base-of g.J.Run.given c.args.shared.now.linker c.args.shared.now.constants c.args.shared.now.plan.now c.requires.calls c.args.shared.now.workers
    c.in_ok-base.base c.requires.leaves
    c.in_ok-base.ensures.base

pub run_pass-requires-clause-room : goal.run_pass-requires-clause-room
run_pass-requires-clause-room g c κs within =
    base-room g.J.Run.given c.args.shared.now.linker c.args.shared.now.constants c.args.shared.now.plan.now c.requires.calls c.args.shared.now.workers
    c.in_ok-base.base c.requires.limits
    c.requires.few_constants c.in_ok-base.ensures.base

pub returns-clause-run : goal.returns-clause-run
returns-clause-run g c =
    linked-reported g.J.Run.given c.args.shared.now.linker c.args.shared.now.constants c.args.shared.now.plan.now c.requires.calls
    (named-of g.J.Run.given c.requires.constants) c.args.shared.now.workers c.in_ok-base.base
    c.in_ok-base.ensures.base c.run_pass.result c.run_pass.ensures.run

pub returns-clause-stop : goal.returns-clause-stop
returns-clause-stop g c =
    stop-reported g.J.Run.given c.args.shared.now.linker c.args.shared.now.constants c.args.shared.now.plan.now c.requires.calls
    (named-of g.J.Run.given c.requires.constants) c.args.shared.now.workers c.in_ok-base.base
    c.in_ok-base.ensures.base c.run_pass.result c.run_pass.ensures.stop

pub returns-clause-full : goal.returns-clause-full
returns-clause-full g c =
    full-reported g.J.Run.given c.args.shared.now.linker c.args.shared.now.constants c.args.shared.now.plan.now c.requires.calls
    (named-of g.J.Run.given c.requires.constants) c.args.shared.now.workers c.in_ok-base.base
    c.in_ok-base.ensures.base c.run_pass.result c.run_pass.ensures.stop

pub returns-clause-no_slot : goal.returns-clause-no_slot
returns-clause-no_slot g c =
    no-slot-reported g.J.Run.given c.args.shared.now.linker c.args.shared.now.constants c.args.shared.now.plan.now c.requires.calls
    (named-of g.J.Run.given c.requires.constants) c.args.shared.now.workers c.in_ok-base.base
    c.in_ok-base.ensures.base c.run_pass.result c.run_pass.ensures.stop
