use Rattle.std.proofs.Common.{◌≡◌, ◌∙◌, ◌-◌, ◌++◌, [], ◌∷◌, All, length, map, subst, sym, ap, arith, rules}
use Rattle.std.proofs.lemmas.List.{map_push}
use Rattle.std.proofs.lemmas.List.Elements.{All-push}
use Rattle.std.proofs.lemmas.Iterator.Adapters.{YieldsList-from_vec}
use Rattle.std.proofs.lemmas.Iterator.Consumers.{YieldsList-turn}
use Rattle.crossbeam_deque.specs.Handles.{IsPassOf, worker_deque, worker_view}
use Rattle.mh_prelink.specs.declared.tally.Tally.{Tally}
use Rattle.mh_prelink.proofs.Balance.{forks}
use Rattle.mh_prelink.proofs.Tallies.{cut_more}
use Rattle.mh_prelink.specs.Lanes.{CanSteal}
use Rattle.mh_prelink.specs.Steps.{Goes}
use Rattle.mh_prelink.specs.declared.worked.Lane.{Lane}
use Rattle.mh_prelink.proofs.thieves.fork_all.Goals as goal

pub another-place-requires : goal.another-place-requires
another-place-requires g c =
    let taken = YieldsList-turn (YieldsList-from_vec {s = c.into_iter-pass-iterator.result} c.args.passes.items (search rules) (search rules))
    c.loop-pass.yielded c.loop-pass.pass-iterator c.loop-pass.yielded_by c.next.result c.next.new.self
    c.in-Some.pass c.in-Some.is c.next.ensures.steps in
    let e : (worker_view c.loop-pass.owner).parts ≡ (worker_view c.args.owner.now).parts - length c.loop-pass.yielded =
    ap (λ (h : Tally). h.parts) c.loop-pass.invariant.cut in
    forks _ _ _ (omega (arith, taken.0, c.requires.parts, e))

pub loop-pass-preserved : goal.loop-pass-preserved
loop-pass-preserved g c =
    let i = c.loop-pass.invariant in
    let same = c.another-place.ensures.same in
    let pushed = c.in_ok-push.ensures in
    let made = c.in_ok-work.ensures in
    let ys = c.loop-pass.yielded in
    let x = c.in-Some.pass in
    let lane : Lane g.row.L-Pass.Denot g.row.L-Stop.Denot = record { place = c.another-place.result; work = c.in_ok-work.work } in
    let l = c.args.linking.now in
    record {
      same = (same.0.0 ∙ i.same.0, same.0.1 ∙ i.same.1, same.0.2 ∙ i.same.2, omega (arith, same.0.3, i.same.3));
      cut = cut_more ys x (worker_view c.args.owner.now) (worker_view c.loop-pass.owner) _ i.cut c.another-place.ensures.rule.0;
      passes =
          ap (map (λ z. z.work.pass)) pushed.items ∙ map_push (λ z. z.work.pass) c.loop-pass.lanes.items lane
          ∙ ap (λ z. z ++ c.in_ok-work.work.pass ∷ []) i.passes ∙ ap (λ z. ys ++ z ∷ []) made.none.1;
      lanes = let P = CanSteal {P = g.row.L-Pass.Denot} {E = g.row.L-Stop.Denot} (λ z. IsPassOf (worker_deque c.args.owner.now) z.place)
          (g.L.Linking.step l) (g.L.Linking.has l) (g.L.Linking.room l) g.N.Bound.bound in
          subst (All P) (sym pushed.items) (All-push P c.loop-pass.lanes.items lane i.lanes
          record {
            place = subst (λ d. IsPassOf d c.another-place.result) i.same.0 same.2;
            view = c.another-place.ensures.rule.1;
            taken = made.none.0;
            goes = subst (λ z. Goes {P = g.row.L-Pass.Denot} {E = g.row.L-Stop.Denot} (g.L.Linking.step l) (g.L.Linking.has l)
                (g.L.Linking.room l) g.N.Bound.bound z c.in_ok-work.work) (sym made.none.1) made.goes;
          });
    }
