use Rattle.std.proofs.Common.{◌∙◌}
use Rattle.mh_runtime.proofs.sites.SiteSerials.{length-linked}
use Rattle.mh_runtime.proofs.known_sites.KnownSites.len.Goals as goal

pub returns-clause-count : goal.returns-clause-count
returns-clause-count g c = rw (← c.self.view_is) (length-linked c.self.inside.known ∙ (c.len.ensures.values ∙ c.self.invariant))
