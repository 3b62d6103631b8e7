use Rattle.std.proofs.Common.{rules}
use Rattle.mh_intern.proofs.Seating.{seated_joined, known_seated}
use Rattle.mh_intern.proofs.table.TypeTable.join.Goals as goal

pub invariant_of-seat : goal.invariant_of-seat
invariant_of-seat c =
    let l = c.join-2.ensures.looked in (
      search rules,
      search rules,
      seated_joined c.seat.inside.caller.view c.other.inside.caller.view _ c.join-2.ensures.moves.1 c.seat.invariant.2 c.other.invariant.2 l.agrees l.full
          l.asked l.most,
    )

pub returns-clause-known : goal.returns-clause-known
returns-clause-known c =
    let l = c.join-2.ensures.looked in
    known_seated c.join-2.new.self.view
    (seated_joined c.seat.inside.caller.view c.other.inside.caller.view _ c.join-2.ensures.moves.1 c.seat.invariant.2 c.other.invariant.2 l.agrees l.full
    l.asked l.most)
