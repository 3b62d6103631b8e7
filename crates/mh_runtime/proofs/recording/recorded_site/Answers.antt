use Rattle.mh_runtime.proofs.ledger.RecordedSites.{entry-found}
use Rattle.mh_runtime.proofs.recording.recorded_site.Goals as goal

pub returns-then-eq-clause-entry : goal.returns-then-eq-clause-entry
returns-then-eq-clause-entry g c =
    entry-found g.J.Run.given c.args.pass.now c.args.site c.in-Some.linkage.now c.in_ok-recorded.field-0 c.in-Some.ensures.found c.in-Some.ensures.value
    c.job-job.ensures.named c.told.ensures c.in_ok-recorded.ensures
