use Rattle.std.proofs.Common.{◌≤◌, subst, sym}
use Rattle.mh_seats.specs.Room.{times}
use Rattle.mh_tickets.proofs.tickets.Tickets.join.Goals as goal

pub returns-clause-distinct : goal.returns-clause-distinct
returns-clause-distinct c x = subst (λ me. times x me.0.numbers ≤ 1) (sym c.look.ensures.stays.1) (c.look.ensures.distinct x)
