use Rattle.mh_runtime.proofs.sites.SiteSerials.{finds-linkage, finds-value}
use Rattle.mh_runtime.proofs.known_sites.KnownSites.seen.Goals as goal

pub returns-clause-found : goal.returns-clause-found
returns-clause-found g c = rw (← c.self.view_is) (finds-linkage c.self.inside.known c.args.site c.seen.result c.seen.ensures)

pub returns-clause-value : goal.returns-clause-value
returns-clause-value g c = rw (← c.self.view_is) (finds-value c.self.inside.known c.args.site c.seen.result c.seen.ensures)
