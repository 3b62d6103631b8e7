use Rattle.std.proofs.Common.{ap, subst}
use Rattle.mh_jobs.specs.declared.job.Job.{Job}
use Rattle.mh_cells.specs.Values.{Puts}
use Rattle.mh_runtime.specs.Passes.{site_of}
use Rattle.mh_runtime.proofs.sites.SiteSerials.{keeps-serials, puts-linkage, puts-value}
use Rattle.mh_runtime.proofs.known_sites.KnownSites.put.Goals as goal

pub returns-clause-linked : goal.returns-clause-linked
returns-clause-linked g c = rw (← c.self.view_is) (keeps-serials c.self.inside.known c.put.new.self c.put.ensures.learns.values)

pub returns-clause-put : goal.returns-clause-put
returns-clause-put g c =
    puts-linkage c.put.new.self c.args.linkage c.put.result
    (subst (λ site. Puts site_of c.put.new.self.values site c.args.linkage c.put.result) (ap (λ (j : Job). j.site) c.job.ensures.job) c.put.ensures.put)

pub returns-clause-values : goal.returns-clause-values
returns-clause-values g c = rw (← c.self.view_is) c.put.ensures.learns.values

pub returns-clause-value : goal.returns-clause-value
returns-clause-value g c =
    puts-value c.put.new.self c.args.linkage c.put.result
    (subst (λ site. Puts site_of c.put.new.self.values site c.args.linkage c.put.result) (ap (λ (j : Job). j.site) c.job.ensures.job) c.put.ensures.put)
