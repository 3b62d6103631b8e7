use Rattle.std.proofs.Common.{ap, length}
use Rattle.mh_tickets.specs.Seats.{SeatView}
use Rattle.mh_embed.proofs.FirstSplit.{first-has, other-has}
use Rattle.mh_embed.proofs.split_and_call.Goals as goal

-- both passes have room for the dynamic constants

pub call_from_both-requires-clause-one_constants : goal.call_from_both-requires-clause-one_constants
call_from_both-requires-clause-one_constants g c κs within =
    first-has (length g.J.Run.given.constants) (length g.J.Run.given.jobs) 1 c.args.shared.now.linker c.args.seats c.args.shared.now.constants c.args.asked
    c.in_ok-asked.asked c.in_ok-one.one _ c.in_ok-two.two c.requires.few (ap (λ (s : SeatView). s.room) c.requires.asked) c.in_ok-asked.ensures
    c.in_ok-one.ensures.begins c.in_ok-two.ensures.splits c.in_ok-two.ensures.left

pub call_from_both-requires-clause-two_constants : goal.call_from_both-requires-clause-two_constants
call_from_both-requires-clause-two_constants g c κs within =
    other-has (length g.J.Run.given.constants) (length g.J.Run.given.jobs) 1 c.args.shared.now.linker c.args.seats c.args.shared.now.constants c.args.asked
    c.in_ok-asked.asked c.in_ok-one.one _ c.in_ok-two.two c.requires.few (ap (λ (s : SeatView). s.room) c.requires.asked) c.in_ok-asked.ensures
    c.in_ok-one.ensures.begins c.in_ok-two.ensures.splits
