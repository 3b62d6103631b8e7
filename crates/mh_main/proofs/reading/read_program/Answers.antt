use Rattle.std.proofs.Common.{◌∙◌}
use Rattle.mh_main.specs.Input.{named_input}
use Rattle.mh_main.specs.Stops.{IsStopAmong, ReachesInput, Refuses}
use Rattle.mh_words.specs.Options.{said}
use Rattle.mh_words.specs.Words.{held_names}
use Rattle.mh_main.proofs.Programs.{classes-among, classes-stop, constants-are, has-jobs, jobs-are, plan-among, plan-stop, program-read, texts-mean}
use Rattle.mh_main.proofs.Reaching.{handed}
use Rattle.mh_main.proofs.reading.read_program.Goals as goal

pub returns-in_err-jobs-clause-stop : goal.returns-in_err-jobs-clause-stop
returns-in_err-jobs-clause-stop g c =
    let names = held_names c.args.names.now in
    let files = g.I.Inputs.contents c.args.inputs.now in
    let faults = g.I.Inputs.faults c.args.inputs.now in
    let now = g.I.Inputs.faults c.read_jobs.new.inputs in
    let one = c.in_ok-leaves.ensures in
    let two = c.in_ok-scripts.ensures in
    let mean = texts-mean names files (g.I.Inputs.contents c.read_leaves.new.inputs) c.in_ok-leaves.leaves c.in_ok-scripts.scripts
    one.keeps.contents one.ok two.ok in
    handed c.from_residual-in_err-jobs.result c.in_err-jobs.field-0.0 (IsStopAmong (ReachesInput names files) faults now)
    c.from_residual-in_err-jobs.ensures.1
    (classes-among names files (g.I.Inputs.contents c.read_scripts.new.inputs) faults (g.I.Inputs.faults c.read_scripts.new.inputs) now
    c.in_ok-leaves.leaves c.in_ok-scripts.scripts c.in_err-jobs.field-0.0
    (λ n. two.keeps.contents n ∙ one.keeps.contents n) (λ n. two.no_fault n ∙ one.no_fault n) mean (rw c.deref.ensures.value at c.in_err-jobs.ensures.stop))

pub returns-in_err-jobs-clause-refuses : goal.returns-in_err-jobs-clause-refuses
returns-in_err-jobs-clause-refuses g c =
    let names = held_names c.args.names.now in
    let files = g.I.Inputs.contents c.args.inputs.now in
    let one = c.in_ok-leaves.ensures in
    let two = c.in_ok-scripts.ensures in
    let mean = texts-mean names files (g.I.Inputs.contents c.read_leaves.new.inputs) c.in_ok-leaves.leaves c.in_ok-scripts.scripts
    one.keeps.contents one.ok two.ok in
    handed c.from_residual-in_err-jobs.result c.in_err-jobs.field-0.0 (λ stop. Refuses (named_input c.args.output names files) stop)
    c.from_residual-in_err-jobs.ensures.1
    (classes-stop c.args.output names files (g.I.Inputs.contents c.read_scripts.new.inputs) c.in_ok-leaves.leaves c.in_ok-scripts.scripts
    c.in_err-jobs.field-0.0
    (λ n. two.keeps.contents n ∙ one.keeps.contents n) mean (rw c.deref.ensures.value at c.in_err-jobs.ensures.refuses))

pub returns-in_err-plan-clause-stop : goal.returns-in_err-plan-clause-stop
returns-in_err-plan-clause-stop g c =
    let names = held_names c.args.names.now in
    let files = g.I.Inputs.contents c.args.inputs.now in
    let faults = g.I.Inputs.faults c.args.inputs.now in
    let now = g.I.Inputs.faults c.read_calls.new.inputs in
    let one = c.in_ok-leaves.ensures in
    let two = c.in_ok-scripts.ensures in
    let three = c.in_ok-jobs.ensures in
    let mean = texts-mean names files (g.I.Inputs.contents c.read_leaves.new.inputs) c.in_ok-leaves.leaves c.in_ok-scripts.scripts
    one.keeps.contents one.ok two.ok in
    let has = has-jobs (said c.args.names.now.classes.items) files (g.I.Inputs.contents c.read_scripts.new.inputs) c.in_ok-leaves.leaves c.in_ok-scripts.scripts
    c.in_ok-jobs.jobs (λ n. two.keeps.contents n ∙ one.keeps.contents n) (rw c.deref.ensures.value at three.ok) in
    handed c.from_residual-in_err-plan.result c.in_err-plan.field-0.0 (IsStopAmong (ReachesInput names files) faults now)
    c.from_residual-in_err-plan.ensures.1
    (plan-among names files faults (g.I.Inputs.faults c.read_jobs.new.inputs) now c.in_ok-leaves.leaves c.in_ok-scripts.scripts c.in_ok-jobs.jobs
    c.in_err-plan.field-0.0 (λ n. three.no_fault n ∙ two.no_fault n ∙ one.no_fault n) mean has c.in_err-plan.ensures.stop)

pub returns-in_err-plan-clause-refuses : goal.returns-in_err-plan-clause-refuses
returns-in_err-plan-clause-refuses g c =
    let names = held_names c.args.names.now in
    let files = g.I.Inputs.contents c.args.inputs.now in
    let one = c.in_ok-leaves.ensures in
    let two = c.in_ok-scripts.ensures in
    let three = c.in_ok-jobs.ensures in
    let mean = texts-mean names files (g.I.Inputs.contents c.read_leaves.new.inputs) c.in_ok-leaves.leaves c.in_ok-scripts.scripts
    one.keeps.contents one.ok two.ok in
    let has = has-jobs (said c.args.names.now.classes.items) files (g.I.Inputs.contents c.read_scripts.new.inputs) c.in_ok-leaves.leaves c.in_ok-scripts.scripts
    c.in_ok-jobs.jobs (λ n. two.keeps.contents n ∙ one.keeps.contents n) (rw c.deref.ensures.value at three.ok) in
    handed c.from_residual-in_err-plan.result c.in_err-plan.field-0.0 (λ stop. Refuses (named_input c.args.output names files) stop)
    c.from_residual-in_err-plan.ensures.1
    (plan-stop c.args.output names files (g.I.Inputs.contents c.read_jobs.new.inputs) (g.I.Inputs.faults c.read_jobs.new.inputs)
    (g.I.Inputs.faults c.read_calls.new.inputs)
    c.in_ok-leaves.leaves c.in_ok-scripts.scripts c.in_ok-jobs.jobs c.in_err-plan.field-0.0
    (λ n. three.keeps.contents n ∙ two.keeps.contents n ∙ one.keeps.contents n) mean has c.in_err-plan.ensures.stop c.in_err-plan.ensures.refuses)

pub returns-clause-ok : goal.returns-clause-ok
returns-clause-ok g c =
    let names = held_names c.args.names.now in
    let files = g.I.Inputs.contents c.args.inputs.now in
    let one = c.in_ok-leaves.ensures in
    let two = c.in_ok-scripts.ensures in
    let three = c.in_ok-jobs.ensures in
    let mean = texts-mean names files (g.I.Inputs.contents c.read_leaves.new.inputs) c.in_ok-leaves.leaves c.in_ok-scripts.scripts
    one.keeps.contents one.ok two.ok in
    let has = has-jobs (said c.args.names.now.classes.items) files (g.I.Inputs.contents c.read_scripts.new.inputs) c.in_ok-leaves.leaves c.in_ok-scripts.scripts
    c.in_ok-jobs.jobs (λ n. two.keeps.contents n ∙ one.keeps.contents n) (rw c.deref.ensures.value at three.ok) in
    program-read c.args.output names files (g.I.Inputs.contents c.read_jobs.new.inputs) c.in_ok-leaves.leaves c.in_ok-scripts.scripts c.in_ok-jobs.jobs
    c.in_ok-plan.plan
    (λ n. three.keeps.contents n ∙ two.keeps.contents n ∙ one.keeps.contents n) mean has c.in_ok-plan.ensures.ok

pub returns-clause-runnable : goal.returns-clause-runnable
returns-clause-runnable g c = record {
  calls = c.in_ok-plan.ensures.calls;
  limits = c.in_ok-plan.ensures.limits;
  jobs = jobs-are c.in_ok-leaves.leaves c.in_ok-scripts.scripts (said c.args.names.now.classes.items) (g.I.Inputs.contents c.read_scripts.new.inputs)
      c.in_ok-jobs.jobs (rw c.deref.ensures.value at c.in_ok-jobs.ensures.ok);
  constants = constants-are c.in_ok-leaves.leaves c.in_ok-scripts.scripts (said c.args.names.now.classes.items)
      (g.I.Inputs.contents c.read_scripts.new.inputs) c.in_ok-jobs.jobs (rw c.deref.ensures.value at c.in_ok-jobs.ensures.ok);
  few_sites = c.in_ok-jobs.ensures.few;
  few_workers = c.requires;
}
