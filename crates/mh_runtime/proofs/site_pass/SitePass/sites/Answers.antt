use Rattle.std.proofs.Common.{sym, ◌∙◌, ap, length}
use Rattle.mh_runtime.specs.Passes.{LinkPass}
use Rattle.mh_runtime.proofs.site_pass.SitePass.sites.Goals as goal

pub returns-clause-linked : goal.returns-clause-linked
returns-clause-linked g c = sym (ap (λ (p : LinkPass). length p.linked) c.self.view_is) ∙ c.len.ensures.count
