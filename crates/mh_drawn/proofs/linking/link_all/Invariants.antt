use Rattle.std.proofs.Common.{◌≡◌}
use Rattle.mh_condy.specs.Nodes.{found_in}
use Rattle.mh_drawn.specs.Linked.{AreLinkages, HasLinked, IsOf, StaysLent}
use Rattle.mh_drawn.proofs.linking.link_all.Given as goal

abbrev pub invariant-loop-number : goal.invariant-loop-number
invariant-loop-number g l = record {
  of : IsOf g.J.Run.given l.w;
  lent : StaysLent l.initial.w l.w;
  table : l.asked.table ≡ l.constants;
  linked : HasLinked g.J.Run.given l.number l.w.pass.now l.w.seat.now l.asked;
  linkages : AreLinkages (found_in l.asked.known) l.number l.linkages;
}
