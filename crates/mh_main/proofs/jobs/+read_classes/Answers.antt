use Rattle.std.proofs.Common.{◌-◌, ◌∙◌, ℕ, List, Bor, length}
use Rattle.std.proofs.lemmas.List.{length-map}
use Rattle.mh_runtime.specs.Passes.{most_sites}
use Rattle.mh_words.specs.Options.{said}
use Rattle.mh_main.proofs.ClassJobs.{jobs-left, made-all, made-none}
use Rattle.mh_main.proofs.Reaching.{others-among, others-stop}
use Rattle.mh_main.proofs.jobs.+read_classes.Goals as goal

-- no file is left
pub returns-in_default-clause-ok : goal.returns-in_default-clause-ok
returns-in_default-clause-ok g t c =
    made-none c.args.methods.now.leaves.now c.args.methods.now.scripts.now (most_sites - length c.args.jobs.sites) (said c.args.names.now)
    (g.I.Inputs.contents c.args.inputs.now) c.args.jobs (length-map c.args.names.now (λ (name : Bor (List ℕ)). name.now) ∙ c.in_default.ensures.cases)

pub returns-clause-ok : goal.returns-clause-ok
returns-clause-ok g t c =
    rw c.in-Some.ensures.cases.0
    (made-all c.read_classes.result c.args.methods.now.leaves.now c.args.methods.now.scripts.now c.in-Some.name.now.now (said c.in-Some.others.now)
    (g.I.Inputs.contents c.args.inputs.now) (g.I.Inputs.contents c.read_class.new.inputs) c.args.jobs c.in_ok-jobs.jobs
    c.in_ok-jobs.ensures.keeps.contents c.in_ok-jobs.ensures.ok c.read_classes.ensures.ok)

pub returns-clause-refuses : goal.returns-clause-refuses
returns-clause-refuses g t c =
    let made = c.in_ok-jobs.ensures.ok in
    rw c.in-Some.ensures.cases.0
    (others-stop c.read_classes.result (most_sites - length c.args.jobs.sites) (most_sites - length c.in_ok-jobs.jobs.sites)
    c.in-Some.name.now.now (said c.in-Some.others.now) (g.I.Inputs.contents c.args.inputs.now) (g.I.Inputs.contents c.read_class.new.inputs) made.0
    c.in_ok-jobs.ensures.keeps.contents made.1
    (jobs-left c.args.methods.now.leaves.now c.args.methods.now.scripts.now c.args.jobs c.in_ok-jobs.jobs made.0 made.2) c.read_classes.ensures.refuses)

pub returns-clause-stop : goal.returns-clause-stop
returns-clause-stop g t c =
    let made = c.in_ok-jobs.ensures.ok in
    rw c.in-Some.ensures.cases.0
    (others-among c.read_classes.result (most_sites - length c.args.jobs.sites) (most_sites - length c.in_ok-jobs.jobs.sites)
    c.in-Some.name.now.now (said c.in-Some.others.now) (g.I.Inputs.contents c.args.inputs.now) (g.I.Inputs.contents c.read_class.new.inputs)
    (g.I.Inputs.faults c.args.inputs.now) (g.I.Inputs.faults c.read_class.new.inputs) (g.I.Inputs.faults c.read_classes.new.inputs) made.0
    c.in_ok-jobs.ensures.keeps.contents c.in_ok-jobs.ensures.no_fault made.1
    (jobs-left c.args.methods.now.leaves.now c.args.methods.now.scripts.now c.args.jobs c.in_ok-jobs.jobs made.0 made.2) c.read_classes.ensures.stop)
