use Rattle.std.proofs.Common.{arith}
use Rattle.mh_tickets.proofs.Keeps.{looks_allowed}
use Rattle.mh_tickets.proofs.steps.look.Goals as goal

pub load-requires : goal.load-requires
load-requires c = (c.requires.0, omega arith, looks_allowed _ _ _)
