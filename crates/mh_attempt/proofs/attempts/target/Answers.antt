use Rattle.mh_condy.specs.Nodes.{found_in}
use Rattle.mh_attempt.specs.AskedTypes.{job_types, target_types}
use Rattle.mh_attempt.specs.Constants.{call_in}
use Rattle.mh_attempt.specs.Linkage.{target_recipes}
use Rattle.mh_attempt.specs.Recipes.{attempt_recipes}
use Rattle.mh_attempt.proofs.types.Adding.{adds-none, adds-unmade}
use Rattle.mh_attempt.proofs.asked.AskedLines.{same-asks}
use Rattle.mh_attempt.proofs.types.AskingRuns.{same-types}
use Rattle.mh_attempt.proofs.linking.JobCalls.{job-leaves, job-method}
use Rattle.mh_attempt.proofs.linking.Outcomes.{job-asked, job-types}
use Rattle.mh_attempt.proofs.attempts.target.Goals as goal

pub call_bootstrap-requires-clause-method : goal.call_bootstrap-requires-clause-method
call_bootstrap-requires-clause-method g c =
    job-method c.args.w.now.leaves.now c.args.scripts.now c.args.job.now (found_in c.args.constants.now.known) c.in_ok-call.call c.requires.job
    c.in_ok-call.ensures

pub call_bootstrap-requires-clause-leaves : goal.call_bootstrap-requires-clause-leaves
call_bootstrap-requires-clause-leaves g c =
    job-leaves c.args.w.now.leaves.now c.args.scripts.now c.args.job.now (found_in c.args.constants.now.known) c.in_ok-call.call c.requires.job
    c.in_ok-call.ensures

pub returns-clause-asks : goal.returns-clause-asks
returns-clause-asks g c =
    let leaves = c.args.w.now.leaves.now in
    let made = call_in c.args.constants.now c.args.job.now in
    same-asks (attempt_recipes leaves c.args.scripts.now made c.args.serial) (target_recipes leaves c.args.scripts.now c.args.serial c.in_ok-call.call)
    c.args.w.now c.call_bootstrap.new.w c.call_bootstrap.result (job-asked leaves c.args.scripts.now made c.args.serial c.in_ok-call.call c.in_ok-call.ensures)
    c.call_bootstrap.ensures.asks

pub returns-in_err-call-clause-types : goal.returns-in_err-call-clause-types
returns-in_err-call-clause-types g c =
    adds-unmade c.args.w.now c.args.w.now c.from_residual.result _ c.from_residual.ensures.1 (adds-none c.args.w.now)

-- ---- the types that are asked for

pub returns-clause-asked : goal.returns-clause-asked
returns-clause-asked g c =
    let leaves = c.args.w.now.leaves.now in
    let made = call_in c.args.constants.now c.args.job.now in
    same-types (job_types leaves c.args.scripts.now made c.args.serial) (target_types leaves c.args.scripts.now c.args.serial c.in_ok-call.call)
    c.args.w.now c.call_bootstrap.new.w c.call_bootstrap.result (job-types leaves c.args.scripts.now made c.args.serial c.in_ok-call.call c.in_ok-call.ensures)
    c.call_bootstrap.ensures.asked
