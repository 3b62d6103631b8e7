use Rattle.mh_jobs.proofs.OfClasses.{are_more, if_well}
use Rattle.mh_jobs.proofs.run_jobs.push_class.Goals as goal

pub returns-clause-are_jobs : goal.returns-clause-are_jobs
returns-clause-are_jobs c are =
    let leaves = c.args.leaves.now in
    let scripts = c.args.scripts.now in
    if_well c.push_constants.result _
    (are_more leaves scripts c.args.view.now c.in_ok-first.first c.args.jobs.now.sites c.push_sites.new.jobs c.in_ok-push_sites.ensures.more are)
