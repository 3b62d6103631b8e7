use Rattle.mh_condy.proofs.Trails.{keeps-same}
use Rattle.mh_runtime.proofs.sites.LinkPasses.{pass-learns}
use Rattle.mh_runtime.proofs.site_pass.SitePass.find.Goals as goal

pub invariant_of-self : goal.invariant_of-self
invariant_of-self g c = (
  c.self.invariant.0,
  pass-learns g.J.Run.given c.self.inside.known c.find.new.self c.self.inside.attempts.items c.self.inside.recorded.items c.self.inside.constants
      c.self.inside.constants c.find.ensures.linked c.find.ensures.values (keeps-same c.self.inside.constants.known) c.self.invariant.1,
)
