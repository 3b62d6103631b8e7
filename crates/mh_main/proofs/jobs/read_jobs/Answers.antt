use Rattle.std.proofs.Common.{subst, ◌-◌, length}
use Rattle.std.specs.Prelude.{IfErr, IfOk}
use Rattle.mh_jobs.specs.declared.run_jobs.RunJobs.{RunJobs}
use Rattle.mh_runtime.specs.Passes.{most_sites}
use Rattle.mh_words.specs.Options.{said}
use Rattle.mh_main.specs.Classes.{MakesAllJobs}
use Rattle.mh_main.specs.Stops.{IsStopAmong, ReachesClass, StopsClasses}
use Rattle.mh_main.proofs.jobs.read_jobs.Goals as goal

-- no jobs leave room for all call sites
pub returns-clause-stop : goal.returns-clause-stop
returns-clause-stop g c =
    let contents = g.I.Inputs.contents c.args.inputs.now in
    let faults = g.I.Inputs.faults c.args.inputs.now in
    let now = g.I.Inputs.faults c.read_classes.new.inputs in
    subst (λ (jobs : RunJobs). IfErr c.read_classes.result (λ stop.
    IsStopAmong (ReachesClass (most_sites - length jobs.sites) (said c.args.names.now) contents) faults now stop))
    c.new.ensures.none c.read_classes.ensures.stop

pub returns-clause-refuses : goal.returns-clause-refuses
returns-clause-refuses g c =
    let contents = g.I.Inputs.contents c.args.inputs.now in
    subst (λ (jobs : RunJobs). IfErr c.read_classes.result (λ stop.
    StopsClasses (most_sites - length jobs.sites) (said c.args.names.now) contents stop)) c.new.ensures.none c.read_classes.ensures.refuses

pub returns-clause-ok : goal.returns-clause-ok
returns-clause-ok g c =
    let contents = g.I.Inputs.contents c.args.inputs.now in
    subst (λ (jobs : RunJobs). IfOk c.read_classes.result
    (MakesAllJobs c.args.leaves.now c.args.scripts.now (most_sites - length jobs.sites) (said c.args.names.now) contents jobs))
    c.new.ensures.none c.read_classes.ensures.ok
