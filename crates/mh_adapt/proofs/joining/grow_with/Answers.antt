use Rattle.std.proofs.Common.{◌∷◌, ◌++◌, []}
use Rattle.mh_intern.proofs.HeldLists.{held-second}
use Rattle.mh_handle.proofs.obeying.Going.{goes_on-after, makes-after, seated-still}
use Rattle.mh_handle.proofs.holding.HoldOrders.{exchanges-few}
use Rattle.mh_handle.proofs.holding.BackwardHolds.{exchanges-backwards, first-yet}
use Rattle.mh_adapt.proofs.Added.{part-grows}
use Rattle.mh_adapt.proofs.joining.grow_with.Goals as goal

pub push-requires-clause-held : goal.push-requires-clause-held
push-requires-clause-held g c = held-second c.args.w.now.seat.now c.args.target.held c.args.part.held c.requires.held

pub returns-in-Ok-clause-goes_on : goal.returns-in-Ok-clause-goes_on
returns-in-Ok-clause-goes_on g c =
    goes_on-after 1 c.args.w.now c.push.new.w c.grown.new.w c.in-Ok.ensures.unchanged (seated-still c.args.w.now c.push.new.w c.in-Ok.ensures.kept)
    c.grown.ensures.goes_on

pub returns-in-Ok-clause-makes : goal.returns-in-Ok-clause-makes
returns-in-Ok-clause-makes g c =
    makes-after (c.args.target.form.recipe ++ c.args.by.key ∷ []) c.args.w.now c.push.new.w c.grown.new.w c.grown.result c.in-Ok.ensures.unchanged
    c.grown.ensures.makes

pub returns-in-Ok-clause-grows : goal.returns-in-Ok-clause-grows
returns-in-Ok-clause-grows g c =
    part-grows c.args.target c.args.part c.args.by c.push.new.self c.requires.none c.in-Ok.ensures.ok c.grown.result c.grown.ensures.grows

pub give_back-requires-clause-held : goal.give_back-requires-clause-held
give_back-requires-clause-held g c =
    first-yet c.args.target.held c.args.part.held c.args.w.now.seat.now c.push.new.w.seat.now c.requires.held c.in-Err.ensures.given_back

pub returns-clause-types : goal.returns-clause-types
returns-clause-types g c =
    exchanges-few (c.args.by.ty ∷ []) (c.args.target.held ++ c.args.part.held) [] c.args.w.now.seat.now c.give_back.new.w.seat.now
    (exchanges-backwards c.args.target.held c.args.part.held c.args.w.now.seat.now c.push.new.w.seat.now c.give_back.new.w.seat.now c.in-Err.ensures.given_back
    c.give_back.ensures.types)
