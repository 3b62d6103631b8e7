use Rattle.std.proofs.Common.{◌∙◌, ap, sym, subst, [], ◌∷◌, ◌++◌, append_assoc}
use Rattle.mh_intern.specs.Exchanges.{AreHeld, Exchanges}
use Rattle.mh_intern.proofs.HeldLists.{held-second}
use Rattle.mh_handle.proofs.holding.BackwardHolds.{exchanges-backwards, first-yet}
use Rattle.mh_branch.proofs.Trading.{held-same}
use Rattle.mh_more.specs.Several.{holds_of}
use Rattle.mh_more.proofs.Lists.{listed-same, three-held, trades-given}
use Rattle.mh_more.proofs.several.three.Goals as goal

pub pair-requires-clause-held : goal.pair-requires-clause-held
pair-requires-clause-held c =
    let seat = c.args.w.now.seat.now in
    held-second seat c.args.first.held (c.args.second.held ++ c.args.third.held)
    (subst (AreHeld seat) (append_assoc c.args.first.held c.args.second.held c.args.third.held) c.requires.held)

pub with_first-requires-clause-held : goal.with_first-requires-clause-held
with_first-requires-clause-held c =
    held-same (c.args.first.held ++ holds_of c.in-Ok.others) (c.args.first.held ++ c.args.second.held ++ c.args.third.held) c.args.w.now.seat.now
    c.pair.new.w.seat.now c.in-Ok.ensures.types
    (ap (λ l. c.args.first.held ++ holds_of l) c.in-Ok.ensures.listed ∙ three-held c.args.first c.args.second c.args.third) c.requires.held

pub returns-in-Ok-clause-listed : goal.returns-in-Ok-clause-listed
returns-in-Ok-clause-listed c =
    listed-same (c.args.first ∷ c.in-Ok.others) (c.args.first ∷ c.args.second ∷ c.args.third ∷ []) c.with_first.result
    (ap (λ l. c.args.first ∷ l) c.in-Ok.ensures.listed) c.with_first.ensures.listed

pub returns-in-Ok-clause-types : goal.returns-in-Ok-clause-types
returns-in-Ok-clause-types c =
    trades-given (c.args.first.held ++ holds_of c.in-Ok.others) (c.args.first.held ++ c.args.second.held ++ c.args.third.held) c.args.w.now
    c.pair.new.w c.with_first.new.w c.with_first.result
    (ap (λ l. c.args.first.held ++ holds_of l) c.in-Ok.ensures.listed ∙ three-held c.args.first c.args.second c.args.third) c.in-Ok.ensures.types
    c.with_first.ensures.types

pub give_back-requires-clause-held : goal.give_back-requires-clause-held
give_back-requires-clause-held c =
    let seat = c.args.w.now.seat.now in
    first-yet c.args.first.held (c.args.second.held ++ c.args.third.held) seat c.pair.new.w.seat.now
    (subst (AreHeld seat) (append_assoc c.args.first.held c.args.second.held c.args.third.held) c.requires.held) c.in-Err.ensures.types

pub returns-in-Err-clause-types : goal.returns-in-Err-clause-types
returns-in-Err-clause-types c =
    let seat = c.args.w.now.seat.now in
    let new = c.give_back.new.w.seat.now in
    subst (λ l. Exchanges [] l [] seat new) (sym (append_assoc c.args.first.held c.args.second.held c.args.third.held))
    (exchanges-backwards c.args.first.held (c.args.second.held ++ c.args.third.held) seat c.pair.new.w.seat.now new c.in-Err.ensures.types
    c.give_back.ensures.types)
