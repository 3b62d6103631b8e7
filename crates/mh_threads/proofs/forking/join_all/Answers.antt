use Rattle.std.proofs.Common.{sym, ◌∙◌, subst, map-id, rules}
use Rattle.std.proofs.lemmas.Iterator.Adapters.{YieldsList-from_vec}
use Rattle.std.proofs.lemmas.Iterator.Consumers.{YieldsList-end, YieldsList-turn}
use Rattle.mh_threads.proofs.Turns.{lane-done, lane-within}
use Rattle.mh_threads.proofs.forking.join_all.Goals as goal

pub loop-lane-init : goal.loop-lane-init
loop-lane-init g c = λ before joined ran. joined

pub join-requires : goal.join-requires
join-requires g c =
    let taken = YieldsList-turn (YieldsList-from_vec {s = c.into_iter-lane-iterator.result} c.args.lanes.items (search rules) (search rules))
    c.loop-lane.yielded c.loop-lane.lane-iterator c.loop-lane.yielded_by c.next.result c.next.new.self
    c.in-Some.lane c.in-Some.is c.next.ensures.steps in
    let done = g.T.ForkJoin.done c.args.task.now in
    let before = c.requires.0 in
    let all = c.args.lanes.items in (
      before,
      c.loop-lane.yielded,
      c.loop-lane.invariant before c.requires.1 c.requires.2,
      lane-within done before all c.loop-lane.yielded c.in-Some.lane c.requires.2 taken.0,
      lane-done done before all c.loop-lane.yielded c.in-Some.lane c.requires.2 taken,
    )

pub loop-lane-preserved : goal.loop-lane-preserved
loop-lane-preserved g c = λ before joined ran.
    let taken = YieldsList-turn (YieldsList-from_vec {s = c.into_iter-lane-iterator.result} c.args.lanes.items (search rules) (search rules))
    c.loop-lane.yielded c.loop-lane.lane-iterator c.loop-lane.yielded_by c.next.result c.next.new.self
    c.in-Some.lane c.in-Some.is c.next.ensures.steps in
    let done = g.T.ForkJoin.done c.args.task.now in
    let all = c.args.lanes.items in
    c.in_ok-join.ensures before c.loop-lane.yielded (c.loop-lane.invariant before joined ran)
    (lane-within done before all c.loop-lane.yielded c.in-Some.lane ran taken.0)
    (lane-done done before all c.loop-lane.yielded c.in-Some.lane ran taken)

pub returns : goal.returns
returns g c = λ before joined ran.
    let end = YieldsList-end (YieldsList-from_vec {s = c.into_iter-lane-iterator.result} c.args.lanes.items (search rules) (search rules)) c.loop-lane.yielded
    c.loop-lane.lane-iterator c.loop-lane.yielded_by c.next.result c.next.new.self c.in-None.is
    c.next.ensures.steps in
    subst (λ lanes. g.T.ForkJoin.joined c.args.task.now before lanes c.loop-lane.state) (sym (map-id c.loop-lane.yielded) ∙ end.0)
    (c.loop-lane.invariant before joined ran)
