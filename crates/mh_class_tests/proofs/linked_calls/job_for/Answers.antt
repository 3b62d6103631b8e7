use Rattle.std.proofs.Common.{arith}
use Rattle.mh_class_tests.proofs.LinkedSites.{made-alone, made-is}
use Rattle.mh_class_tests.proofs.linked_calls.job_for.Goals as goal

pub returns-clause-job : goal.returns-clause-job
returns-clause-job c = made-is c.args.leaves.now c.args.scripts.now c.in-Ok.view 0 0 0 c.job_of.result c.job_of.ensures

-- the class has no Dynamic entry
pub returns-clause-places : goal.returns-clause-places
returns-clause-places c =
    let none = c.dynamics.ensures in
    made-alone c.args.leaves.now c.args.scripts.now c.in-Ok.view 0 0 0 c.job_of.result c.in-Ok.ensures.dynamics (omega (arith, none)) c.job_of.ensures
