use Rattle.std.proofs.Common.{[], ◌∷◌, Ok, Err}
use Rattle.mh_handle.specs.declared.handle.Handle.{Handle}
use Rattle.mh_attempt.specs.AskedTypes.{types_made}
use Rattle.mh_attempt.specs.Recipes.{recipes_made}
use Rattle.mh_attempt.proofs.asked.AskedNodes.{asks-unchanged}
use Rattle.mh_attempt.proofs.asked.AskedOperands.{asks-more, asks-unmade-both}
use Rattle.mh_handle.proofs.obeying.Going.{goes_on-before, goes_on-both, seated-back}
use Rattle.mh_attempt.proofs.types.Adding.{adds-back, adds-both, holds-after, of-types, operand-yet}
use Rattle.mh_attempt.proofs.types.AskingTypes.{types-back}
use Rattle.mh_attempt.proofs.types.OperandTypes.{types-others, types-unmade_both}
use Rattle.mh_attempt.proofs.lines.several.make_both.Goals as goal

-- ---- what is asked for

pub returns-in_err-first-clause-asks : goal.returns-in_err-first-clause-asks
returns-in_err-first-clause-asks g c =
    let w = c.args.w.now in
    asks-unmade-both w.leaves.now (c.args.first.now ∷ []) (c.args.second.now ∷ []) w c.make.new.w
    c.in_err-first.field-0.0 c.from_residual.result c.from_residual.ensures.1 c.in_err-first.ensures.asks

pub returns-in-Ok-clause-asks : goal.returns-in-Ok-clause-asks
returns-in-Ok-clause-asks g c =
    asks-more (c.args.first.now ∷ []) (c.args.second.now ∷ []) c.args.w.now c.make.new.w c.make-2.new.w (Ok c.in-Ok.second)
    c.make.ensures.goes_on.leaves c.in_ok-first.ensures.asks c.in-Ok.ensures.asks

pub returns-in-Err-clause-asks : goal.returns-in-Err-clause-asks
returns-in-Err-clause-asks g c =
    let w = c.args.w.now in
    asks-unchanged {A = Handle} (recipes_made w.leaves.now (c.args.first.now ∷ c.args.second.now ∷ []) []) w c.make-2.new.w c.give_back.new.w
    (Err c.in-Err.error) c.give_back.ensures.unchanged.pass
    (asks-more {A = Handle} (c.args.first.now ∷ []) (c.args.second.now ∷ []) w c.make.new.w c.make-2.new.w (Err c.in-Err.error)
    c.make.ensures.goes_on.leaves c.in_ok-first.ensures.asks c.in-Err.ensures.asks)

-- ---- the seat of types

pub make-requires-2-clause-held : goal.make-requires-2-clause-held
make-requires-2-clause-held g c =
    operand-yet c.args.second.now c.in_ok-first.first.held c.args.w.now c.make.new.w c.in_ok-first.ensures.types c.requires.second.held

pub returns-in-Ok-clause-types : goal.returns-in-Ok-clause-types
returns-in-Ok-clause-types g c =
    adds-both c.in_ok-first.first.held c.in-Ok.second.held c.args.w.now c.make.new.w c.make-2.new.w c.in_ok-first.ensures.types c.in-Ok.ensures.types

pub give_back-requires-clause-of_types : goal.give_back-requires-clause-of_types
give_back-requires-clause-of_types g c =
    of-types 2 2 c.args.w.now c.make-2.new.w (goes_on-both 1 1 c.args.w.now c.make.new.w c.make-2.new.w c.make.ensures.goes_on c.make-2.ensures.goes_on)
    c.requires.ready

pub give_back-requires-clause-held : goal.give_back-requires-clause-held
give_back-requires-clause-held g c =
    holds-after c.in_ok-first.first.held c.args.w.now c.make.new.w c.make-2.new.w c.in_ok-first.ensures.types c.in-Err.ensures.types

pub returns-in-Err-clause-types : goal.returns-in-Err-clause-types
returns-in-Err-clause-types g c =
    adds-back c.in_ok-first.first.held c.args.w.now c.make.new.w c.make-2.new.w c.give_back.new.w c.in_ok-first.ensures.types c.in-Err.ensures.types
    c.give_back.ensures.types

pub returns-in-Err-clause-goes_on : goal.returns-in-Err-clause-goes_on
returns-in-Err-clause-goes_on g c =
    let made = goes_on-both 1 1 c.args.w.now c.make.new.w c.make-2.new.w c.make.ensures.goes_on c.make-2.ensures.goes_on in
    goes_on-before 2 c.args.w.now c.make-2.new.w c.give_back.new.w made c.give_back.ensures.unchanged
    (seated-back [] c.in_ok-first.first.held c.make-2.new.w c.give_back.new.w c.give_back.ensures.types)

-- ---- the types that are asked for

pub returns-in_err-first-clause-asked : goal.returns-in_err-first-clause-asked
returns-in_err-first-clause-asked g c =
    let w = c.args.w.now in
    types-unmade_both Handle w.leaves.now (c.args.first.now ∷ []) (c.args.second.now ∷ []) w c.make.new.w
    c.in_err-first.field-0.0 c.from_residual.result c.from_residual.ensures.1 c.in_err-first.ensures.asked

pub returns-in-Ok-clause-asked : goal.returns-in-Ok-clause-asked
returns-in-Ok-clause-asked g c =
    types-others (c.args.first.now ∷ []) (c.args.second.now ∷ []) c.args.w.now c.make.new.w c.make-2.new.w (Ok c.in-Ok.second)
    c.make.ensures.goes_on.leaves c.in_ok-first.ensures.asked c.in-Ok.ensures.asked

pub returns-in-Err-clause-asked : goal.returns-in-Err-clause-asked
returns-in-Err-clause-asked g c =
    let w = c.args.w.now in
    types-back {A = Handle × Handle} (types_made w.leaves.now (c.args.first.now ∷ c.args.second.now ∷ []) []) c.in_ok-first.first.held w c.make-2.new.w
    c.give_back.new.w (Err c.in-Err.error) c.give_back.ensures.types
    (types-others {A = Handle} (c.args.first.now ∷ []) (c.args.second.now ∷ []) w c.make.new.w c.make-2.new.w (Err c.in-Err.error)
    c.make.ensures.goes_on.leaves c.in_ok-first.ensures.asked c.in-Err.ensures.asked)
