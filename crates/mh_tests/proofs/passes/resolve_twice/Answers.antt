use Rattle.std.proofs.Common.{◌∙◌, ap, length, arith}
use Rattle.mh_tickets.specs.Seats.{SeatView}
use Rattle.mh_condy.specs.Passes.{PassView}
use Rattle.mh_runtime.proofs.lanes.CallRoom.{all_room}
use Rattle.mh_tests.proofs.FirstSplit.{first-has, other-has}
use Rattle.mh_tests.proofs.passes.resolve_twice.Goals as goal

-- after a split the first pass has room for two calls
pub resolve-requires-else-other-clause-room : goal.resolve-requires-else-other-clause-room
resolve-requires-else-other-clause-room g c =
    let linker = c.args.shared.now.linker in
    let has = all_room (length g.J.Run.given.jobs) linker (record { types = linker.types.now; forms = linker.forms.now; serials = linker.sites.serials })
    c.args.seats c.in_ok-asked.asked c.in_ok-one.one c.in_ok-one.ensures.begins
    (ap (λ (p : PassView). p.seat.room) c.in_ok-asked.ensures ∙ ap (λ (s : SeatView). s.room) c.requires.asked)
    (record { types_are = c.requires.types; forms_are = c.requires.forms; serials_are = c.requires.serials }) in
    let less = c.in_ok-two.ensures.left in
    c.resolve.ensures.left 1 (record {
      serials = let a = has.serials in let b = less.serials in omega (arith, a, b);
      forms = let a = has.forms in let b = less.forms in omega (arith, a, b);
      holds = let a = has.types in let b = less.holds in omega (arith, a, b);
    })

-- both passes have room for the dynamic constants
pub resolve-requires-clause-constants : goal.resolve-requires-clause-constants
resolve-requires-clause-constants g c =
    first-has (length g.J.Run.given.constants) (length g.J.Run.given.jobs) 1 c.args.shared.now.linker c.args.seats c.args.shared.now.constants c.args.asked
    c.in_ok-asked.asked c.in_ok-one.one _ c.in_ok-two.two c.requires.few (ap (λ (s : SeatView). s.room) c.requires.asked) c.in_ok-asked.ensures
    c.in_ok-one.ensures.begins c.in_ok-two.ensures.splits c.in_ok-two.ensures.left

pub resolve-requires-then-other-clause-constants : goal.resolve-requires-then-other-clause-constants
resolve-requires-then-other-clause-constants g c =
    other-has (length g.J.Run.given.constants) (length g.J.Run.given.jobs) 1 c.args.shared.now.linker c.args.seats c.args.shared.now.constants c.args.asked
    c.in_ok-asked.asked c.in_ok-one.one _ c.in_ok-two.two c.requires.few (ap (λ (s : SeatView). s.room) c.requires.asked) c.in_ok-asked.ensures
    c.in_ok-one.ensures.begins c.in_ok-two.ensures.splits
