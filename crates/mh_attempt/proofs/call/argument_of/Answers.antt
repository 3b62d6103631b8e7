use Rattle.std.proofs.Common.{subst}
use Rattle.mh_link.specs.Named.{run_of}
use Rattle.mh_attempt.specs.Constants.{HasPlace}
use Rattle.mh_attempt.proofs.call.argument_of.Goals as goal

pub constant_argument-requires : goal.constant_argument-requires
constant_argument-requires g c = subst (HasPlace (run_of g.J.Run.given)) c.in-Constant.is c.requires
