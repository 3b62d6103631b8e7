use Rattle.mh_attempt.proofs.linking.Holding.{linkage-holds}
use Rattle.mh_attempt.proofs.linkage.Linkage.types_held.Goals as goal

pub returns : goal.returns
returns g c = rw (← c.self.view_is) (linkage-holds g.J.Run.given c.self.inside.job.now c.self.inside.serial c.self.inside.under.value.items
    c.self.inside.linked c.self.invariant)
