use Rattle.std.proofs.Common.{◌≡◌, ◌∙◌, ◌+◌, ◌++◌, [], ◌∷◌, length, map, flat_map, subst, sym, ap, arith, map-id, append_assoc, rules}
use Rattle.std.proofs.lemmas.List.{length_push, map_push}
use Rattle.std.proofs.lemmas.Iterator.Adapters.{YieldsList-from_vec}
use Rattle.std.proofs.lemmas.Iterator.Consumers.{YieldsList-end, YieldsList-turn}
use Rattle.crossbeam_deque.specs.Handles.{view, IsPassOf, worker_deque, worker_view}
use Rattle.mh_prelink.specs.Tallies.{tally}
use Rattle.mh_prelink.proofs.Balance.{merges}
use Rattle.mh_prelink.specs.Steps.{done_by}
use Rattle.mh_prelink.proofs.Tallies.{gathered}
use Rattle.mh_prelink.proofs.thieves.gather.Goals as goal

pub absorb-requires-clause-table : goal.absorb-requires-clause-table
absorb-requires-clause-table g c =
    let taken = YieldsList-turn (YieldsList-from_vec {s = c.into_iter-lane-iterator.result} c.args.lanes.items (search rules) (search rules))
    c.loop-lane.yielded c.loop-lane.lane-iterator c.loop-lane.yielded_by c.next.result c.next.new.self
    c.in-Some.lane c.in-Some.is c.next.ensures.steps in
    let at = c.requires.places (length c.loop-lane.yielded) c.in-Some.lane taken.0 in
    let placed = subst (λ l. IsPassOf (worker_deque c.args.owner.now) l.place) (sym taken.1) at.0 in
    subst (λ d. IsPassOf d c.in-Some.lane.place) (sym c.loop-lane.invariant.same.0) placed

pub absorb-requires-clause-rule : goal.absorb-requires-clause-rule
absorb-requires-clause-rule g c = merges _ _ _ _ _

pub loop-lane-preserved : goal.loop-lane-preserved
loop-lane-preserved g c =
    let taken = YieldsList-turn (YieldsList-from_vec {s = c.into_iter-lane-iterator.result} c.args.lanes.items (search rules) (search rules))
    c.loop-lane.yielded c.loop-lane.lane-iterator c.loop-lane.yielded_by c.next.result c.next.new.self
    c.in-Some.lane c.in-Some.is c.next.ensures.steps in
    let at = c.requires.places (length c.loop-lane.yielded) c.in-Some.lane taken.0 in
    let viewed = subst (λ l. view l.place ≡ tally 1 [] l.work.taken.items) (sym taken.1) at.1 in
    let i = c.loop-lane.invariant in
    let same = c.absorb.ensures.same.0 in
    let pushed = c.push_reserved.ensures in
    let ys = c.loop-lane.yielded in
    let x = c.in-Some.lane in
    record {
      same = (same.0 ∙ i.same.0, same.1 ∙ i.same.1, same.2 ∙ i.same.2, omega (arith, same.3, i.same.3));
      tallies = gathered ys x (worker_view c.args.owner.now) (worker_view c.loop-lane.owner) _ (λ l. l.work.taken.items) (view x.place)
          i.tallies viewed c.absorb.ensures.rule;
      workers =
          pushed.items ∙ ap (λ w. c.loop-lane.workers.items ++ w ∷ []) c.finish_work.ensures ∙ ap (λ l. l ++ done_by x.work ∷ []) i.workers
          ∙ append_assoc c.args.workers.now.items (map (λ l. done_by l.work) ys) (done_by x.work ∷ [])
          ∙ ap (λ l. c.args.workers.now.items ++ l) (sym (map_push (λ l. done_by l.work) ys x));
      len = let l = length_push ys x in omega (arith, pushed.len, i.len);
      capacity = pushed.capacity ∙ i.capacity;
    }

pub returns-clause-tallies : goal.returns-clause-tallies
returns-clause-tallies g c =
    let end = YieldsList-end (YieldsList-from_vec {s = c.into_iter-lane-iterator.result} c.args.lanes.items (search rules) (search rules)) c.loop-lane.yielded
    c.loop-lane.lane-iterator c.loop-lane.yielded_by c.next.result c.next.new.self c.in-None.is
    c.next.ensures.steps in
    subst (λ ls. worker_view c.loop-lane.owner ≡ tally ((worker_view c.args.owner.now).parts + length ls) (worker_view c.args.owner.now).put
    ((worker_view c.args.owner.now).taken ++ flat_map (λ x. x.work.taken.items) ls))
    (sym (map-id c.loop-lane.yielded) ∙ end.0) c.loop-lane.invariant.tallies

pub returns-clause-workers : goal.returns-clause-workers
returns-clause-workers g c =
    let end = YieldsList-end (YieldsList-from_vec {s = c.into_iter-lane-iterator.result} c.args.lanes.items (search rules) (search rules)) c.loop-lane.yielded
    c.loop-lane.lane-iterator c.loop-lane.yielded_by c.next.result c.next.new.self c.in-None.is
    c.next.ensures.steps in
    subst (λ ls. c.loop-lane.workers.items ≡ c.args.workers.now.items ++ map (λ x. done_by x.work) ls)
    (sym (map-id c.loop-lane.yielded) ∙ end.0) c.loop-lane.invariant.workers
