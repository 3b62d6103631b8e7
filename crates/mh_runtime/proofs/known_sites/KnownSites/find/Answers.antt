use Rattle.mh_runtime.proofs.sites.SiteSerials.{finds-linkage, finds-value, keeps-serials}
use Rattle.mh_runtime.proofs.known_sites.KnownSites.find.Goals as goal

pub returns-clause-linked : goal.returns-clause-linked
returns-clause-linked g c = rw (← c.self.view_is) (keeps-serials c.self.inside.known c.find.new.self c.find.ensures.learns.values)

pub returns-clause-found : goal.returns-clause-found
returns-clause-found g c = finds-linkage c.find.new.self c.args.site c.find.result c.find.ensures.found

pub returns-clause-values : goal.returns-clause-values
returns-clause-values g c = rw (← c.self.view_is) c.find.ensures.learns.values

pub returns-clause-value : goal.returns-clause-value
returns-clause-value g c = finds-value c.find.new.self c.args.site c.find.result c.find.ensures.found
