use Rattle.std.proofs.Common.{◌≡◌, []}
use Rattle.crossbeam_deque.specs.Handles.{view, IsPassOf, stealer_deque}
use Rattle.mh_prelink.specs.Tallies.{tally}
use Rattle.mh_prelink.specs.Steps.{Goes}
use Rattle.mh_prelink.proofs.thieves.steal_all.Given as goal

abbrev pub invariant-loop : goal.invariant-loop
invariant-loop g l = record {
  place : IsPassOf (stealer_deque l.thief) l.lane.place;
  tally : view l.lane.place ≡ tally 1 [] l.lane.work.taken.items;
  goes : Goes (g.L.Linking.step l.linking) (g.L.Linking.has l.linking) (g.L.Linking.room l.linking) g.N.Bound.bound l.initial.lane.work.pass l.lane.work;
}
