use Rattle.mh_prelink.specs.Steps.{Goes}
use Rattle.mh_prelink.specs.Owners.{TalliesGrow}
use Rattle.mh_prelink.proofs.working.pop_all.Given as goal

abbrev pub invariant-loop : goal.invariant-loop
invariant-loop g l = record {
  more : TalliesGrow l.initial.owner l.initial.mine l.owner l.mine;
  goes : (p : g.row.L-Pass.Denot) → Goes (g.L.Linking.step l.linking) (g.L.Linking.has l.linking) (g.L.Linking.room l.linking) g.N.Bound.bound p l.initial.mine
      → Goes (g.L.Linking.step l.linking) (g.L.Linking.has l.linking) (g.L.Linking.room l.linking) g.N.Bound.bound p l.mine;
}
