use Rattle.mh_runtime.proofs.sites.LinkPasses.{pass-begins}
use Rattle.mh_runtime.proofs.site_pass.SitePass.begin.Goals as goal

pub invariant_of-self-2 : goal.invariant_of-self-2
invariant_of-self-2 g c = (
  c.self.invariant.0,
  rw (c.push_reserved.ensures.items, c.reserve.ensures.items)
      (pass-begins g.J.Run.given c.self.inside.known c.self.inside.attempts.items c.self.inside.recorded.items c.self.inside.constants
      (record { thread = c.self.inside.thread; site = c.args.site; serial = c.draw-serial.result }) c.self.invariant.1 c.requires.site),
)
