use Rattle.std.proofs.Common.{◌≡◌, ◌-◌, map, All, length}
use Rattle.crossbeam_deque.specs.Handles.{worker_view, worker_deque, IsPassOf, SameWorker}
use Rattle.mh_prelink.specs.Tallies.{tally}
use Rattle.mh_prelink.specs.Lanes.{CanSteal}
use Rattle.mh_prelink.proofs.thieves.fork_all.Given as goal

abbrev pub invariant-loop-pass : goal.invariant-loop-pass
invariant-loop-pass g l = record {
  same : SameWorker l.initial.owner l.owner;
  cut : worker_view l.owner ≡ tally ((worker_view l.initial.owner).parts - length l.yielded)
      (worker_view l.initial.owner).put (worker_view l.initial.owner).taken;
  passes : map (λ x. x.work.pass) l.lanes.items ≡ l.yielded;
  lanes : All (CanSteal (λ x. IsPassOf (worker_deque l.initial.owner) x.place) (g.L.Linking.step l.linking)
      (g.L.Linking.has l.linking) (g.L.Linking.room l.linking) g.N.Bound.bound) l.lanes.items;
}
