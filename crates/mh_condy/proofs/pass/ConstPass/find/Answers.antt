use Rattle.std.proofs.Common.{sym, ◌<◌, subst}
use Rattle.mh_condy.proofs.PassSteps.{looks}
use Rattle.mh_condy.proofs.pass.ConstPass.find.Goals as goal

pub returns : goal.returns
returns g c = rw (← c.self.view_is)
    (looks c.self.inside.thread c.self.inside.known c.find.new.self c.self.inside.attempts.items c.self.inside.recorded.items c.self.inside.seat c.args.c
    c.find.result c.find.ensures.cells c.find.ensures.learns c.find.ensures.found (subst (λ n. c.args.c < n) (sym c.len-count.ensures.values) c.requires))
