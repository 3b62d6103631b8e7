use Rattle.std.proofs.Common.{subst, ap, [], IfOk, arith}
use Rattle.mh_handle.specs.Stands.{StandsForSome}
use Rattle.mh_handle.proofs.obeying.Going.{goes_on-before, goes_on-both, goes_on-more, seated-back}
use Rattle.mh_steps.proofs.Adding.{adds-back, adds-beside, adds-yet, types-with}
use Rattle.mh_steps.proofs.making.with_part.Goals as goal

pub returns-in-Ok-clause-goes_on : goal.returns-in-Ok-clause-goes_on
returns-in-Ok-clause-goes_on g c = goes_on-both 1 1 _ _ _ c.in-Ok.ensures.goes_on c.by_part.ensures.goes_on

pub returns-in-Err-clause-goes_on : goal.returns-in-Err-clause-goes_on
returns-in-Err-clause-goes_on g c =
    goes_on-more 1 2 _ _ (omega arith)
    (goes_on-before 1 _ _ _ c.in-Err.ensures.goes_on c.give_back.ensures.unchanged
    (seated-back [] c.args.target.held c.leaf_at.new.w c.give_back.new.w c.give_back.ensures.types))

pub by_part-requires-clause-held : goal.by_part-requires-clause-held
by_part-requires-clause-held g c =
    adds-beside c.args.target.held c.in-Ok.part.held c.args.w.now.seat.now c.leaf_at.new.w.seat.now c.in-Ok.ensures.types c.requires.held

pub give_back-requires-clause-held : goal.give_back-requires-clause-held
give_back-requires-clause-held g c =
    adds-yet [] c.args.target.held c.args.w.now.seat.now c.leaf_at.new.w.seat.now c.in-Err.ensures.types c.requires.held

pub returns-in-Ok-clause-types : goal.returns-in-Ok-clause-types
returns-in-Ok-clause-types g c =
    types-with c.args.target.held c.in-Ok.part.held c.args.w.now c.leaf_at.new.w c.by_part.new.w c.by_part.result c.in-Ok.ensures.types
    c.by_part.ensures.types

pub returns-in-Err-clause-types : goal.returns-in-Err-clause-types
returns-in-Err-clause-types g c =
    adds-back c.args.target.held c.args.w.now.seat.now c.leaf_at.new.w.seat.now c.give_back.new.w.seat.now c.in-Err.ensures.types c.give_back.ensures.types

pub returns-in-Ok-clause-stands : goal.returns-in-Ok-clause-stands
returns-in-Ok-clause-stands g c =
    let moved = ap (λ leaves. leaves.now) c.in-Ok.ensures.goes_on.leaves in
    subst (λ table. IfOk c.by_part.result (StandsForSome table)) moved c.by_part.ensures.stands
