use Rattle.mh_attempt.proofs.call.call_of.Goals as goal

pub resolved_call-requires : goal.resolved_call-requires
resolved_call-requires g c = c.requires c.in-Ok.call c.in-Ok.is
