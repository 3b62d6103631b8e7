use Rattle.std.proofs.Common.{[], sym, subst, List}
use Rattle.mh_intern.specs.Exchanges.{AreHeld, Exchanges}
use Rattle.mh_intern.proofs.HeldLists.{held-second}
use Rattle.mh_handle.specs.Stands.{HandleView}
use Rattle.mh_handle.proofs.holding.BackwardHolds.{exchanges-backwards, first-yet}
use Rattle.mh_more.specs.Several.{holds_of}
use Rattle.mh_more.proofs.switches.Switched.refuse.Goals as goal

pub give_back_all-requires-clause-held : goal.give_back_all-requires-clause-held
give_back_all-requires-clause-held c =
    let seat = c.args.w.now.seat.now in
    subst (λ (hs : List HandleView). AreHeld seat (holds_of hs)) (sym c.into_vec.ensures)
    (held-second seat c.args.self.fallback.held (holds_of c.args.self.cases) c.requires.held)

pub refuse-requires-clause-held : goal.refuse-requires-clause-held
refuse-requires-clause-held c =
    let seat = c.args.w.now.seat.now in
    let mid = c.give_back_all.new.w.seat.now in
    first-yet c.args.self.fallback.held (holds_of c.args.self.cases) seat mid c.requires.held
    (subst (λ (hs : List HandleView). Exchanges [] (holds_of hs) [] seat mid) c.into_vec.ensures c.give_back_all.ensures.types)

pub returns-clause-types : goal.returns-clause-types
returns-clause-types c =
    let seat = c.args.w.now.seat.now in
    let mid = c.give_back_all.new.w.seat.now in
    exchanges-backwards c.args.self.fallback.held (holds_of c.args.self.cases) seat mid c.refuse.new.w.seat.now
    (subst (λ (hs : List HandleView). Exchanges [] (holds_of hs) [] seat mid) c.into_vec.ensures c.give_back_all.ensures.types)
    c.refuse.ensures.types
