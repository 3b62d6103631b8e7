use Rattle.std.proofs.Common.{arith}
use Rattle.mh_condy.proofs.Drawing.{on-none}
use Rattle.mh_attempt.proofs.linking.AskedConstants.{asked-called, asked-uncalled}
use Rattle.mh_attempt.proofs.call.ask.Goals as goal

pub ask-requires-clause-places : goal.ask-requires-clause-places
ask-requires-clause-places g c = c.requires.places c.in-Ok.call c.in-Ok.is

pub returns-in_ok-found-in-Ok-clause-asks : goal.returns-in_ok-found-in-Ok-clause-asks
returns-in_ok-found-in-Ok-clause-asks g c =
    asked-called g.J.Run.given c.args.job.now c.in-Ok.call c.args.asked.now c.ask.new.pass c.in_ok-found-in-Ok.found c.in-Ok.is
    c.in_ok-found-in-Ok.ensures.asked

pub returns-in-Err-clause-resolving : goal.returns-in-Err-clause-resolving
returns-in-Err-clause-resolving g c = on-none c.args.asked.now

pub returns-in-Err-clause-asks : goal.returns-in-Err-clause-asks
returns-in-Err-clause-asks g c =
    asked-uncalled g.J.Run.given c.args.job.now c.in-Err.field-0 c.args.asked.now c.new.result.items c.in-Err.is c.told.ensures c.new.ensures.items

pub returns-in-Err-clause-few : goal.returns-in-Err-clause-few
returns-in-Err-clause-few g c = omega arith
