use Rattle.mh_plan.proofs.Threads.{with_call-last}
use Rattle.mh_plan.proofs.calls.add_call.Goals as goal

pub returns : goal.returns
returns c =
    with_call-last c.args.threads.now.items c.pop.new.self.items c.push-2.new.self.items c.in-Some.calls c.push.new.self c.args.call
    c.in-Some.ensures.items c.in_ok-push.ensures.ok c.in_ok-push-2.ensures.items
