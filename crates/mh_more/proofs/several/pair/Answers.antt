use Rattle.std.proofs.Common.{◌∙◌, ap, sym, subst, [], ◌∷◌, ◌++◌}
use Rattle.mh_intern.specs.Exchanges.{AreHeld, Exchanges}
use Rattle.mh_intern.proofs.HeldLists.{held-second}
use Rattle.mh_handle.proofs.holding.BackwardHolds.{exchanges-backwards, first-yet}
use Rattle.mh_branch.proofs.Trading.{held-same}
use Rattle.mh_more.specs.Several.{holds_of}
use Rattle.mh_more.proofs.Lists.{listed-same, none-held, trades-given}
use Rattle.mh_more.proofs.several.pair.Goals as goal

pub with_first-requires-clause-held : goal.with_first-requires-clause-held
with_first-requires-clause-held c =
    let seat = c.args.w.now.seat.now in
    subst (AreHeld seat) (sym (none-held c.args.second c.new-none.result c.new-none.ensures))
    (held-second seat c.args.first.held c.args.second.held c.requires.held)

pub with_first-requires-in-Ok-clause-held : goal.with_first-requires-in-Ok-clause-held
with_first-requires-in-Ok-clause-held c =
    held-same (c.args.first.held ++ holds_of c.in-Ok.others) (c.args.first.held ++ c.args.second.held) c.args.w.now.seat.now
    c.with_first.new.w.seat.now c.in-Ok.ensures.types
    (ap (λ l. c.args.first.held ++ holds_of l) c.in-Ok.ensures.listed
    ∙ ap (λ l. c.args.first.held ++ l) (none-held c.args.second c.new-none.result c.new-none.ensures)) c.requires.held

pub returns-in-Ok-clause-listed : goal.returns-in-Ok-clause-listed
returns-in-Ok-clause-listed c =
    listed-same (c.args.first ∷ c.in-Ok.others) (c.args.first ∷ c.args.second ∷ []) c.with_first-in-Ok.result
    (ap (λ l. c.args.first ∷ l) (c.in-Ok.ensures.listed ∙ ap (λ l. c.args.second ∷ l) c.new-none.ensures)) c.with_first-in-Ok.ensures.listed

pub returns-in-Ok-clause-types : goal.returns-in-Ok-clause-types
returns-in-Ok-clause-types c =
    trades-given (c.args.first.held ++ holds_of c.in-Ok.others) (c.args.first.held ++ c.args.second.held) c.args.w.now c.with_first.new.w
    c.with_first-in-Ok.new.w c.with_first-in-Ok.result
    (ap (λ l. c.args.first.held ++ holds_of l) c.in-Ok.ensures.listed
    ∙ ap (λ l. c.args.first.held ++ l) (none-held c.args.second c.new-none.result c.new-none.ensures)) c.in-Ok.ensures.types
    c.with_first-in-Ok.ensures.types

pub give_back-requires-clause-held : goal.give_back-requires-clause-held
give_back-requires-clause-held c =
    let seat = c.args.w.now.seat.now in
    let mid = c.with_first.new.w.seat.now in
    first-yet c.args.first.held c.args.second.held seat mid c.requires.held
    (subst (λ l. Exchanges [] l [] seat mid) (none-held c.args.second c.new-none.result c.new-none.ensures) c.in-Err.ensures.types)

pub returns-in-Err-clause-types : goal.returns-in-Err-clause-types
returns-in-Err-clause-types c =
    let seat = c.args.w.now.seat.now in
    let mid = c.with_first.new.w.seat.now in
    exchanges-backwards c.args.first.held c.args.second.held seat mid c.give_back.new.w.seat.now
    (subst (λ l. Exchanges [] l [] seat mid) (none-held c.args.second c.new-none.result c.new-none.ensures) c.in-Err.ensures.types)
    c.give_back.ensures.types
