use Rattle.std.proofs.Common.{[], ◌∷◌}
use Rattle.std.proofs.lemmas.List.Elements.{All-cons, All-nil}
use Rattle.mh_classfile.specs.Class.{HasDynamics}
use Rattle.mh_runtime.proofs.constants.ClassConstants.{are-constants}
use Rattle.mh_tests.proofs.passes.jobs_of.Goals as goal

-- no job is one of these leaves and scripts, and the class adds jobs of them
pub returns-clause-sites : goal.returns-clause-sites
returns-clause-sites c = c.in_ok-push_class.ensures.are_jobs (c.new-jobs.ensures.are_jobs c.args.leaves.now c.args.scripts.now)

-- the constants are those of the one class
pub returns-clause-constants : goal.returns-clause-constants
returns-clause-constants c =
    are-constants c.args.leaves.now c.args.scripts.now (c.args.view.now ∷ [])
    (All-cons HasDynamics c.args.view.now [] c.requires (All-nil HasDynamics)) c.push_class.new.jobs
    (c.in_ok-push_class.ensures.run [] c.new-jobs.ensures.none)
