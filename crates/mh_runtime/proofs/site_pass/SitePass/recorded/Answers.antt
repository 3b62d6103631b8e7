use Rattle.std.proofs.Common.{subst}
use Rattle.std.specs.Prelude.{All}
use Rattle.mh_runtime.specs.Passes.{IsRecorded, LinkPass}
use Rattle.mh_runtime.proofs.site_pass.SitePass.recorded.Goals as goal

pub returns-clause-are : goal.returns-clause-are
returns-clause-are g c = subst (λ (p : LinkPass). All (IsRecorded p.linked p.attempts) p.recorded) c.self.view_is c.self.invariant.1.recorded_are
