use Rattle.std.proofs.Common.{◌∙◌, ap, length, replicate, None}
use Rattle.mh_runtime.proofs.sites.SiteSerials.{nothing-linked}
use Rattle.mh_runtime.proofs.known_sites.KnownSites.new.Goals as goal

pub returns-clause-linked : goal.returns-clause-linked
returns-clause-linked g c = nothing-linked c.cells.result.now c.in_ok-new.field-0 c.in_ok-new.ensures
    ∙ ap (λ n. replicate n None) (ap length c.cells.ensures.cells ∙ c.cells.ensures.count)
